-- The laws of `first`, the least number below n that passes a test, or n. It is never computed.
use mathlib.Core.Path.{◌≡◌, refl, subst}
use mathlib.Core.Bool.{Bool, true, false, cond}
use mathlib.Core.Logic.{⊎_elim}
use Prim.Native.Nat.{ℕ, zero, suc, ◌<◌}
use native.Mathlib.Nat.{not-suc-le-zero, le_of_suc-le-suc, eq-or-lt_of_le}
use native.Mathlib.Omega.{arith}
use borrow.Author.Tests.{ltb-true, ltb-false, lt-ltb}
use lib.Dec.{T, ltb}
use Rattle.names.specs.Calls.{first, some}

module _ (p : ℕ → Bool) where
  step_passes : (f n : ℕ) (s t : Bool) → ltb f n ≡ s → p n ≡ t → (f < n → T (p f)) → cond s f (cond t n (suc n)) < suc n → T (p (cond s f (cond t n (suc n))))
  step_passes f n true t d e ih h = ih (ltb-true f n d)
  step_passes f n false true d e ih h = rw e tt
  step_passes f n false false d e ih h = absurd (omega arith)

  passes : (n : ℕ) → first p n < n → T (p (first p n))
  unfolding first
  passes zero h = absurd (not-suc-le-zero h)
  passes (suc n) h = step_passes (first p n) n (ltb (first p n) n) (p n) refl refl (passes n) h

  -- where some number below n passes, the first one does
  pub first_passes : (n : ℕ) → some p n ≡ true → (first p n < n) × T (p (first p n))
  first_passes n e = let l = ltb-true (first p n) n e in (l, passes n l)

  step_found : (f n : ℕ) (s t : Bool) → ltb f n ≡ s → p n ≡ t → (w : ℕ) → T (p w) → w < suc n → (w < n → f < n) → cond s f (cond t n (suc n)) < suc n
  step_found f n true t d e w q h ih = omega (arith, ltb-true f n d)
  step_found f n false true d e w q h ih = omega arith
  step_found f n false false d e w q h ih =
      ⊎_elim
      (λ (x : w ≡ n). absurd (subst T (e) (subst (λ (y : ℕ). T (p y)) x q)))
      (λ (l : w < n). absurd (omega (arith, ih l, ltb-false f n d)))
      (eq-or-lt_of_le (le_of_suc-le-suc h))

  found : (n w : ℕ) → T (p w) → w < n → first p n < n
  unfolding first
  found zero w q h = absurd (not-suc-le-zero h)
  found (suc n) w q h = step_found (first p n) n (ltb (first p n) n) (p n) refl refl w q h (found n w q)

  -- a number that passes is some number
  pub some_passes : (n w : ℕ) → T (p w) → w < n → some p n ≡ true
  some_passes n w q h = lt-ltb (first p n) n (found n w q h)

  none_case : (n : ℕ) (t : Bool) → some p n ≡ t → ((w : ℕ) → w < n → T (p w) → ⊥) → t ≡ false
  none_case n true e f = let r = first_passes n e in absurd (f (first p n) r.0 r.1)
  none_case n false e f = refl

  -- no number below n passes
  pub none_passes : (n : ℕ) → ((w : ℕ) → w < n → T (p w) → ⊥) → some p n ≡ false
  none_passes n f = none_case n (some p n) refl f
