-- A list cut into parts of n elements, as `as_chunks` gives it.
use Rattle.std.proofs.Common.{◌≡◌, ℕ, zero, suc, ◌*◌, ◌<◌, List, [], take, drop, get_or, drop-drop, ◌∙◌, arith}
use native.Mathlib.Nat.{add_comm, mul-suc, mul-zero}
use Rattle.std.specs.Simd.{first_chunks}

pub get_chunk : {X : Type 0} (n k i : ℕ) (xs : List X) → i < k → get_or (first_chunks n k xs) i [] ≡ take n (drop (n * i) xs)
get_chunk n zero i xs h = elim h [ ]
get_chunk n (suc k) zero xs h = rw (mul-zero n)
get_chunk n (suc k) (suc i) xs h = get_chunk n k i (drop n xs) (omega arith) ∙ (rw (drop-drop (n * i) n xs, mul-suc n i, add_comm n (n * i)))
