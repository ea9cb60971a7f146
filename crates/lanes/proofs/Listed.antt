-- Sixteen numbers as the list of a function's values: its length, its elements, and when a list is that list.
use mathlib.Core.Path.{◌≡◌, refl, sym, ap, ◌∙◌}
use mathlib.Core.Bool.{Bool, true, false}
use mathlib.Core.List.{List, [], ◌∷◌, ◌++◌}
use Prim.Native.Nat.{ℕ, zero, suc, ◌+◌, ◌≤◌, ◌<◌}
use native.Mathlib.Numerals.{add-one}
use native.Mathlib.Omega.{arith}
use lib.Dec.{leb}
use lib.ListN.{length, get_or, take, length-append, get_or-append}
use lib.Seq.{take-suc, take_all, get_or-append-add}
use borrow.Author.Tests.{leb-true, leb-false}
use Rattle.lanes.specs.Lanes.{listed}

length_listed : (n : ℕ) (g : ℕ → ℕ) → length (listed n g) ≡ n
unfolding listed
length_listed zero g = refl
length_listed (suc n) g = length-append (listed n g) (g n ∷ []) ∙ ap (λ (m : ℕ). m + 1) (length_listed n g) ∙ add-one n

at_below : (n : ℕ) (g : ℕ → ℕ) (i : ℕ) → i < n → get_or (listed n g) i 0 ≡ g i
unfolding listed
at_below zero g i h = let z : ⊥ = omega arith in absurd z
at_below (suc n) g i h = pick (leb n i) refl (at_below n g i)
  where
    pick : (t : Bool) → leb n i ≡ t → (i < n → get_or (listed n g) i 0 ≡ g i) → get_or (listed n g ++ (g n ∷ [])) i 0 ≡ g i
    pick true e below =
        let last : i ≡ n = omega (arith, leb-true n i e) in
        let end : i ≡ length (listed n g) + 0 = omega (arith, length_listed n g) in
        ap (λ (k : ℕ). get_or (listed n g ++ (g n ∷ [])) k 0) end ∙ get_or-append-add (listed n g) (g n ∷ []) 0 0 ∙ ap g (sym last)
    pick false e below =
        let h : i < n = leb-false n i e in get_or-append (listed n g) (g n ∷ []) 0 i (omega (arith, length_listed n g)) ∙ below h

pub length_sixteen : (g : ℕ → ℕ) → length (listed 16 g) ≡ 16
length_sixteen g = length_listed 16 g

pub get_d_listed : (g : ℕ → ℕ) (i : ℕ) → i < 16 → get_or (listed 16 g) i 0 ≡ g i
get_d_listed g i h = at_below 16 g i h

pub element : (f : ℕ → ℕ) {l : List ℕ} → l ≡ listed 16 f → (i : ℕ) → i < 16 → get_or l i 0 ≡ f i
element f e i h = ap (λ (l : List ℕ). get_or l i 0) e ∙ get_d_listed f i h

pub listed_same : (n : ℕ) (f g : ℕ → ℕ) → ((i : ℕ) → i < n → f i ≡ g i) → listed n f ≡ listed n g
unfolding listed
listed_same zero f g e = refl
listed_same (suc n) f g e = rw (e n (omega arith), listed_same n f g (λ i h. e i (omega arith)))

-- a list is that of its elements
pub front : (n : ℕ) (l : List ℕ) → n ≤ length l → take n l ≡ listed n (λ i. get_or l i 0)
unfolding listed
front zero l h = refl
front (suc n) l h = rw (take-suc l n 0 (omega arith), front n l (omega arith))

pub elements : (l : List ℕ) → length l ≡ 16 → l ≡ listed 16 (λ i. get_or l i 0)
elements l e = sym (take_all 16 l (omega (arith, e))) ∙ front 16 l (omega (arith, e))

pub listed_is : (g : ℕ → ℕ) (l : List ℕ) → length l ≡ 16 → ((i : ℕ) → i < 16 → get_or l i 0 ≡ g i) → l ≡ listed 16 g
listed_is g l e f = elements l e ∙ listed_same 16 _ g f
