-- Packed flags: they fit sixteen bits, each is a bit of the number, and the mask of sixteen tests is they.
use mathlib.Core.Path.{◌≡◌, refl, sym, ap, ◌∙◌}
use mathlib.Core.Bool.{Bool, true, false, cond}
use mathlib.Core.List.{List, [], ◌∷◌, map}
use Prim.Native.Nat.{ℕ, zero, suc, ◌+◌, ◌*◌, ◌/◌, ◌%◌, ◌^◌, ◌<◌}
use native.Mathlib.Nat.{pow-suc}
use native.Mathlib.Omega.{arith}
use lib.Dec.{eqb, leb}
use lib.ListN.{length, get_or, replicate}
use lib.Lanes.{zip2, mask_l, top}
use lib.Pow.{shr-shr}
use Rattle.std.specs.Int.{w8}
use Rattle.std.proofs.lemmas.List.{length-map}
use Rattle.std.proofs.lemmas.Simd.{tops_compared, zip2_splat, zip2_splat_left, mask_l-mod}
use Rattle.lanes.specs.Lanes.{flags}
use Rattle.lanes.specs.Inner.Unpacked.{zeros_of, tops_of}

pub flags_same : (n : ℕ) (g h : ℕ → Bool) → ((i : ℕ) → i < n → g i ≡ h i) → flags n g ≡ flags n h
unfolding flags
flags_same zero g h e = refl
flags_same (suc n) g h e = rw (e n (omega arith), flags_same n g h (λ i k. e i (omega arith)))

flags_lt : (n : ℕ) (g : ℕ → Bool) → flags n g < 2 ^ n
unfolding flags
flags_lt zero g = omega arith
flags_lt (suc n) g = pick (g n) (flags_lt n g)
  where
    pick : (t : Bool) → flags n g < 2 ^ n → cond t (2 ^ n) 0 + flags n g < 2 ^ suc n
    pick true h = omega (arith, pow-suc 2 n)
    pick false h = omega (arith, pow-suc 2 n)

pub zeros_lt : (l : List ℕ) → zeros_of l < 65536
unfolding zeros_of
zeros_lt l = flags_lt 16 (λ i. eqb (get_or l i 0) 0)

pub tops_lt : (l : List ℕ) → tops_of l < 65536
unfolding tops_of
tops_lt l = flags_lt 16 (λ i. leb 0x80 (get_or l i 0))

-- flags from the low end
pub flags_low : (n : ℕ) (f : ℕ → Bool) → flags (suc n) f ≡ flags n (λ i. f (suc i)) * 2 + cond (f 0) 1 0
unfolding flags
flags_low zero f = omega arith
flags_low (suc n) f = pick (f (suc n)) (flags_low n f)
  where
    pick : (t : Bool) → flags (suc n) f ≡ flags n (λ i. f (suc i)) * 2 + cond (f 0) 1 0
        → cond t (2 ^ suc n) 0 + flags (suc n) f ≡ (cond t (2 ^ n) 0 + flags n (λ i. f (suc i))) * 2 + cond (f 0) 1 0
    pick true e = omega (arith, pow-suc 2 n)
    pick false e = omega arith

-- the mask of a test of each byte
mask_flags : (p : ℕ → Bool) (l : List ℕ) → mask_l (map p l) ≡ flags (length l) (λ i. p (get_or l i 0))
unfolding flags
mask_flags p [] = refl
mask_flags p (x ∷ xs) = rw (flags_low (length xs) (λ i. p (get_or (x ∷ xs) i 0)), mask_flags p xs) (omega arith)

-- what `to_bitmask` makes of the comparison t of two vectors, where it is that test
pub masked : (t : ℕ → ℕ → Bool) (p : ℕ → Bool) (xs ys l : List ℕ) → length l ≡ 16 → zip2 t xs ys ≡ map p l
    → mask_l (map (top 7) (zip2 (λ a b. cond (t a b) 255 0) xs ys)) % 2 ^ 64 ≡ mask_l (map p l)
masked t p xs ys l e h = rw (tops_compared w8 t xs ys, h) (mask_l-mod (map p l) 64 (omega (arith, e, length-map l p)))

pub zero_mask : (l : List ℕ) → length l ≡ 16 → mask_l (map (top 7) (zip2 (λ a b. cond (eqb a b) 255 0) l (replicate 16 0))) % 2 ^ 64 ≡ zeros_of l
unfolding zeros_of
zero_mask l e = rw (masked eqb (λ x. eqb x 0) l (replicate 16 0) l e (zip2_splat eqb l 16 0 e), mask_flags (λ x. eqb x 0) l, e)

pub top_mask : (l : List ℕ) → length l ≡ 16 → mask_l (map (top 7) (zip2 (λ a b. cond (leb a b) 255 0) (replicate 16 0x80) l)) % 2 ^ 64 ≡ tops_of l
unfolding tops_of
top_mask l e = rw (masked leb (leb 0x80) (replicate 16 0x80) l l e (zip2_splat_left leb 0x80 16 l e), mask_flags (leb 0x80) l, e)

pub digit : (t : Bool) → cond t 1 0 < 2
digit true = omega arith
digit false = omega arith

pub half : (a i : ℕ) → a / 2 ^ suc i ≡ a / 2 / 2 ^ i
half a i = let e : suc i ≡ 1 + i = omega arith in ap (λ (k : ℕ). a / 2 ^ k) e ∙ sym (shr-shr a 1 i)

-- each flag is a bit of the number
pub flag_bit : (n : ℕ) (f : ℕ → Bool) (i : ℕ) → i < n → flags n f / 2 ^ i % 2 ≡ cond (f i) 1 0
flag_bit zero f i h = let z : ⊥ = omega arith in absurd z
flag_bit (suc n) f zero h = rw (flags_low n f) (omega (arith, digit (f 0)))
flag_bit (suc n) f (suc i) h =
    let e : flags (suc n) f / 2 ≡ flags n (λ i. f (suc i)) = omega (arith, flags_low n f, digit (f 0)) in
    rw (half (flags (suc n) f) i, e) (flag_bit n (λ i. f (suc i)) i (omega arith))
