-- How many places an access has, and that its addresses are of thirteen bits.
use mathlib.Core.Path.{◌≡◌, refl, sym, ap, ◌∙◌}
use mathlib.Core.List.{map}
use Prim.Native.Nat.{ℕ, zero, suc, ◌+◌, ◌*◌, ◌<◌}
use native.Mathlib.Omega.{arith}
use native.Mathlib.Nat.{add-zero, add-suc, suc-add, not-suc-le-zero, le_of_suc-le-suc}
use lib.ListN.{length, get_or}
use Rattle.banks.specs.Line.{from, stride_of, row_start, word_start, column_start, start_of, step_of, count_of}
use Rattle.terms.specs.declared.Way.{Way}
use Rattle.terms.specs.declared.Way.TheVariants.{Horizontal, Vertical, Scalar}

pub length_from : (s n : ℕ) → length (from s n) ≡ n
length_from s zero = refl
length_from s (suc n) = ap suc (length_from (suc s) n)

pub get_d_from : (f : ℕ → ℕ) (s n i : ℕ) → i < n → get_or (map f (from s n)) i 0 ≡ f (s + i)
get_d_from f s zero i h = absurd (not-suc-le-zero h)
get_d_from f s (suc n) zero h = ap f (sym (add-zero s))
get_d_from f s (suc n) (suc i) h = get_d_from f (suc s) n i (le_of_suc-le-suc h) ∙ ap f (suc-add s i ∙ sym (add-suc s i))

column_lt : (c a i : ℕ) → i < 16 → column_start c a + i * stride_of c < 8192
unfolding column_start stride_of
column_lt zero a i h = omega arith
column_lt (suc zero) a i h = omega arith
column_lt (suc (suc zero)) a i h = omega arith
column_lt (suc (suc (suc c))) a i h = omega arith

pub way_lt : (w : Way) (c a i : ℕ) → i < count_of w → start_of w c a + i * step_of w c < 8192
unfolding start_of step_of row_start word_start
way_lt Horizontal c a i h = omega arith
way_lt Vertical c a i h = column_lt c a i h
way_lt Scalar c a i h = omega arith
