-- Where a list holds a number, and where the first number of one list is found in another.
use Rattle.std.proofs.Common.{◌≡◌, refl, ap, ap₂, sym, ◌∙◌, ℕ, zero, suc, ◌+◌, ◌≤◌, ◌<◌, Bool, true, false, ◌||◌, List, [], ◌∷◌, ◌++◌, length, get_or, take, drop, drop-cons, length-take-le, add-one, eqb, eqb-true, eq-eqb, ne_eqb, Some, None, arith}
use Rattle.std.proofs.lemmas.Bool.{eqb-false}
use Rattle.std.specs.Prelude.{nat_eq}
use Rattle.std.specs.List.{list_any}
use Rattle.model.specs.Swap.{has}
use Rattle.footprint.specs.Inner.Numbers.{held}
use Rattle.footprint.specs.declared.Numbers.{Numbers}
use Rattle.swap.specs.Inner.Calls.{first_of}

-- equal either way round
turned : (x y : ℕ) → eqb y x ≡ eqb x y
turned x y = go (eqb x y) refl
  where
    go : (t : Bool) → eqb x y ≡ t → eqb y x ≡ t
    go true e = eq-eqb y x (sym (eqb-true x y e))
    go false e = ne_eqb y x (λ h. eqb-false x y e (sym h))

-- by the library's word
pub has_any : (x : ℕ) (ys : List ℕ) → list_any (λ y. nat_eq y x) ys ≡ has x ys
has_any x [] = refl
has_any x (y ∷ ys) = ap₂ (λ (s t : Bool). s || t) (turned x y) (has_any x ys)

-- at each number of a list: it is found, or what is left decides
module _ (xs ys : List ℕ) (i : ℕ) (h : i < length xs) where
  here : drop i xs ≡ get_or xs i 0 ∷ drop (i + 1) xs
  here = drop-cons xs i 0 h ∙ ap (λ (j : ℕ). get_or xs i 0 ∷ drop j xs) (sym (add-one i))

  pub first_here : has (get_or xs i 0) ys ≡ true → first_of (drop i xs) ys ≡ Some (get_or xs i 0)
  first_here e = rw (here, e)

  pub first_later : has (get_or xs i 0) ys ≡ false → first_of (drop i xs) ys ≡ first_of (drop (i + 1) xs) ys
  first_later e = rw (here, e)
