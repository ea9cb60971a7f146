-- Tests that compute: what a true conjunction, a test at each number below n, and the test of two texts say.
use mathlib.Core.Path.{◌≡◌, refl, subst, sym}
use mathlib.Core.Bool.{Bool, true, false, ◌&&◌, not}
use mathlib.Core.List.{List, [], ◌∷◌}
use mathlib.Core.Logic.{⊎_elim}
use Prim.Native.Nat.{ℕ, zero, suc, ◌<◌}
use native.Mathlib.Nat.{not-suc-le-zero, le_of_suc-le-suc, eq-or-lt_of_le}
use lib.Dec.{T, eqb, eqb→eq, eqb_refl}
pub use Rattle.words.proofs.Law.{and_left, and_right}
use Rattle.names.specs.Calls.{eqs}

pub both : (a b : Bool) → T a → T b → T (a && b)
both true b s t = t
both false b s t = s

pub T_true : (t : Bool) → T t → t ≡ true
T_true true h = refl
T_true false h = absurd h

pub T_false : (t : Bool) → T (not t) → t ≡ false
T_false true h = absurd h
T_false false h = refl

module _ (p : ℕ → Bool) where
  abbrev pub all : ℕ → Bool
  all zero = true
  all (suc n) = p n && all n

  pub below : (n : ℕ) → T (all n) → (d : ℕ) → d < n → T (p d)
  below zero t d h = absurd (not-suc-le-zero h)
  below (suc n) t d h =
      ⊎_elim
      (λ (e : d ≡ n). subst (λ (x : ℕ). T (p x)) (sym e) (and_left (p n) (all n) t))
      (λ (l : d < n). below n (and_right (p n) (all n) t) d l)
      (eq-or-lt_of_le (le_of_suc-le-suc h))

pub eqs_eq : (s t : List ℕ) → T (eqs s t) → s ≡ t
eqs_eq [] [] h = refl
eqs_eq [] (b ∷ t) h = absurd h
eqs_eq (a ∷ s) [] h = absurd h
eqs_eq (a ∷ s) (b ∷ t) h = rw (eqb→eq a b (and_left (eqb a b) (eqs s t) h), eqs_eq s t (and_right (eqb a b) (eqs s t) h)) refl

pub eqs_refl : (s : List ℕ) → T (eqs s s)
eqs_refl [] = tt
eqs_refl (a ∷ s) = both (eqb a a) (eqs s s) (eqb_refl a) (eqs_refl s)
