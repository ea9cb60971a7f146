-- Numbers made by a call for each index: where each call gives a function's value, and leaves the closure as it was, they are the list of that function.
use mathlib.Core.Path.{◌≡◌, sym, subst, ◌∙◌}
use mathlib.Core.List.{List}
use Prim.Native.Nat.{ℕ, zero, suc, ◌+◌, ◌<◌, ◌≤◌}
use native.Mathlib.Omega.{arith}
use lib.ListN.{get_or}
use lib.Seq.{take_all}
use denote.Param.Members.{Mut, Called}
use Rattle.std.specs.Array.{IsFromFnResultFrom, IsFromFnResult}
use Rattle.lanes.specs.Lanes.{listed}
use Rattle.lanes.proofs.Listed.{front, listed_same}

module _ {F : Type 0} (g : Mut F (ℕ × Unit {0}) ℕ) (f : F) (h : ℕ → ℕ) (n : ℕ)
    (call : (i y : ℕ) (f' : F) → i < n → Called g f (i, tt) y f' → (y ≡ h i) × (f' ≡ f)) (ys : List ℕ) where
  from_index : (m i : ℕ) → i + m ≤ n → IsFromFnResultFrom g f ys i m → (k : ℕ) → k < m → get_or ys (i + k) 0 ≡ h (i + k)
  from_index zero i b u k l = absurd (omega arith)
  from_index (suc m) i b u zero l =
      let e : i + 0 ≡ i = omega arith in rw e (u.2.1 0 ∙ (call i u.1 u.0 (omega arith) u.3).0)
  from_index (suc m) i b u (suc k) l =
      let e : i + suc k ≡ i + 1 + k = omega arith in
      let rest = subst (λ (q : F). IsFromFnResultFrom g q ys (i + 1) m) (call i u.1 u.0 (omega arith) u.3).1 u.4 in
      rw e (from_index m (i + 1) (omega arith) rest k (omega arith))

pub from_fn_gives : {F : Type 0} {g : Mut F (ℕ × Unit {0}) ℕ} {f : F} {ys : List ℕ} {n : ℕ} → IsFromFnResult g f ys n → (h : ℕ → ℕ)
    → ((i y : ℕ) (f' : F) → i < n → Called g f (i, tt) y f' → (y ≡ h i) × (f' ≡ f)) → ys ≡ listed n h
from_fn_gives {F} {g} {f} {ys} {n} u h call =
    sym (take_all n ys (omega (arith, u.long))) ∙ front n ys (omega (arith, u.long))
    ∙ listed_same n _ h (λ i l. let z : 0 + i ≡ i = omega arith in rw z at (from_index g f h n call ys n 0 (omega arith) u.each i l))
