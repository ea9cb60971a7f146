-- How many of sixteen components something holds of.
use mathlib.Core.Path.{◌≡◌, refl, sym, ap}
use mathlib.Core.Bool.{Bool, true, false, cond}
use mathlib.Core.List.{List, [], ◌∷◌, map}
use Prim.Native.Nat.{ℕ, zero, suc, ◌+◌, ◌%◌, ◌^◌, ◌≤◌, ◌<◌}
use native.Mathlib.Omega.{arith}
use lib.Dec.{eqb}
use lib.ListN.{length, get_or, replicate}
use lib.Bits.{bit_and, and_mask}
use lib.Lanes.{zip2, mask_l, top}
use borrow.Author.Tests.{eq-eqb}
use Rattle.std.specs.Int.RustNames.{count_ones}
use Rattle.std.proofs.lemmas.List.{length-map}
use Rattle.std.proofs.lemmas.Simd.{zip2_splat, map-map, ones-mask_l_cons}
use Rattle.bits.specs.Bitop.{bit}
use Rattle.lanes.specs.Lanes.{listed, flags, how_many}
use Rattle.lanes.specs.Inner.Unpacked.{tally_of}
use Rattle.lanes.proofs.Listed.{element}
use Rattle.lanes.proofs.Packing.{flag_bit, masked}

pub many_same : (n : ℕ) (f g : ℕ → Bool) → ((i : ℕ) → i < n → f i ≡ g i) → how_many n f ≡ how_many n g
unfolding how_many
many_same zero f g e = refl
many_same (suc n) f g e = rw (e n (omega arith), many_same n f g (λ i h. e i (omega arith)))

pub many_none : (n : ℕ) (f : ℕ → Bool) → ((i : ℕ) → f i ≡ false) → how_many n f ≡ 0
unfolding how_many
many_none zero f e = refl
many_none (suc n) f e = rw (e n) (omega (arith, many_none n f e))

pub many_all : (n : ℕ) (f : ℕ → Bool) → ((i : ℕ) → i < n → f i ≡ true) → how_many n f ≡ n
unfolding how_many
many_all zero f e = refl
many_all (suc n) f e = rw (e n (omega arith)) (omega (arith, many_all n f (λ i h. e i (omega arith))))

pub many_le : (n : ℕ) (f : ℕ → Bool) → how_many n f ≤ n
unfolding how_many
many_le zero f = omega arith
many_le (suc n) f = pick (f n) (many_le n f)
  where
    pick : (t : Bool) → how_many n f ≤ n → cond t 1 0 + how_many n f ≤ suc n
    pick true h = omega arith
    pick false h = omega arith

-- bytes that are w or 0, where w is odd
odd : (w : ℕ) → w % 2 ≡ 1 → (t : Bool) → eqb (cond t w 0 % 2) 1 ≡ t
odd w h true = eq-eqb (w % 2) 1 h
odd w h false = refl

pub tallied : (w : ℕ) → w % 2 ≡ 1 → (f : ℕ → Bool) {l : List ℕ} → l ≡ listed 16 (λ i. cond (f i) w 0) → tally_of l ≡ how_many 16 f
unfolding tally_of
tallied w h f {l} e = many_same 16 (λ i. eqb (get_or l i 0 % 2) 1) f (λ i u. rw (element _ e i u) (odd w h (f i)))

-- from the low end
many_low : (n : ℕ) (f : ℕ → Bool) → how_many (suc n) f ≡ cond (f 0) 1 0 + how_many n (λ i. f (suc i))
unfolding how_many
many_low zero f = refl
many_low (suc n) f = omega (arith, many_low n f)

-- the ones of the mask of a test of each byte
mask_ones : (p : ℕ → Bool) (l : List ℕ) → count_ones (mask_l (map p l)) ≡ how_many (length l) (λ i. p (get_or l i 0))
unfolding how_many count_ones
mask_ones p [] = refl
mask_ones p (x ∷ xs) = rw (ones-mask_l_cons (p x) (map p xs), mask_ones p xs) (sym (many_low (length xs) (λ i. p (get_or (x ∷ xs) i 0))))

pub odd_mask : (l : List ℕ) → length l ≡ 16
    → count_ones (mask_l (map (top 7) (zip2 (λ a b. cond (eqb a b) 255 0) (zip2 bit_and l (replicate 16 1)) (replicate 16 1))) % 2 ^ 64) ≡ tally_of l
unfolding tally_of
odd_mask l e =
    let p : ℕ → Bool = λ x. eqb (bit_and x 1) 1 in
    let tests : zip2 eqb (zip2 bit_and l (replicate 16 1)) (replicate 16 1) ≡ map p l =
    rw (zip2_splat bit_and l 16 1 e, zip2_splat eqb (map (λ x. bit_and x 1) l) 16 1 (omega (arith, e, length-map l (λ x. bit_and x 1)))) (map-map (λ x. eqb x 1) (λ x. bit_and x 1) l) in
    rw (masked eqb p (zip2 bit_and l (replicate 16 1)) (replicate 16 1) l e tests, mask_ones p l, e)
    (many_same 16 (λ i. p (get_or l i 0)) (λ i. eqb (get_or l i 0 % 2) 1) (λ i h. ap (λ (x : ℕ). eqb x 1) (and_mask (get_or l i 0) 1)))

-- the bits that are set of packed flags
digit : (t : Bool) → eqb (cond t 1 0) 1 ≡ t
digit true = refl
digit false = refl

pub ones : (n : ℕ) (f : ℕ → Bool) → how_many n (λ i. bit i (flags n f)) ≡ how_many n f
ones n f = many_same n (λ i. bit i (flags n f)) f (λ i h. rw (flag_bit n f i h) (digit (f i)))
