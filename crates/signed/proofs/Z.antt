-- Small signed numbers: their bounds, their bits, and what the machine reads back.
use mathlib.Core.Path.{◌≡◌, refl, sym, ap, subst, ◌∙◌}
use mathlib.Core.Bool.{Bool, true, false, cond}
use Prim.Native.Nat.{ℕ, zero, suc, ◌+◌, ◌-◌, ◌*◌, ◌/◌, ◌%◌, ◌^◌, ◌≤◌, ◌<◌}
use native.Mathlib.Nat.{add-mul, suc-mul, one-mul, pow-suc, mod-lt}
use native.Mathlib.Numerals.{add-one}
use native.Mathlib.Omega.{arith}
use lib.Dec.{T, ltb, eqb}
use lib.Bits.{bit_and, bit_xor, and_mask, xor_comm, xor_zero_r, xor_shifted, xor_block, xor_lt}
use lib.Pow as Pow
use lib.IntN.{ℤ, pos, negsuc, ◌+ℤ◌, ◌-ℤ◌, neg_ℤ, sub_ℕ, nat_abs, +ℤ_idl}
use lib.Signed.{mag, lt_z, non_neg}
use borrow.Author.Tests.{ne_eqb, lt-ltb, le-ltb, ltb-true, ltb-false}
use mir.Syntax.{w32}
use mir.Val.{SFits, of_z, to_z}
use mir.Facts as F
use Rattle.signed.specs.Signed.{is_zero, sext, widen, low}

mag_sub : (a b : ℕ) → mag (sub_ℕ a b) ≤ a + b
mag_sub a b = pick (ltb a b)
  where
    pick : (t : Bool) → mag (cond t (negsuc (b - suc a)) (pos (a - b))) ≤ a + b
    pick true = omega arith
    pick false = omega arith

pub mag_add : (a b : ℤ) → mag (a +ℤ b) ≤ suc (mag a + mag b)
mag_add (pos a) (pos b) = omega arith
mag_add (pos a) (negsuc b) = omega (arith, mag_sub a (suc b))
mag_add (negsuc a) (pos b) = omega (arith, mag_sub b (suc a))
mag_add (negsuc a) (negsuc b) = omega arith

pub mag_neg : (a : ℤ) → mag (neg_ℤ a) ≤ suc (mag a)
mag_neg (pos zero) = omega arith
mag_neg (pos (suc n)) = omega arith
mag_neg (negsuc n) = omega arith

pub add_fits : (a b : ℤ) → mag a < 256 → mag b < 256 → SFits w32 (a +ℤ b)
add_fits a b h k = record { sfits = omega (arith, mag_add a b) }

pub sub_fits : (a b : ℤ) → mag a < 256 → mag b < 256 → SFits w32 (a -ℤ b)
sub_fits a b h k = record { sfits = omega (arith, mag_add a (neg_ℤ b), mag_neg b) }

pub byte_z : (x : ℕ) → x < 2 ^ 31 → to_z w32 x ≡ pos x
byte_z x h = F.to_z_pos w32 h

pub zero_flag : (z : ℤ) → mag z < 2 ^ 31 → eqb (of_z w32 z) 0 ≡ is_zero z
zero_flag (pos n) h = refl
zero_flag (negsuc n) h = ne_eqb (2 ^ 32 - suc n) 0 (λ e. omega arith)

pub sext_pos : (x k n : ℕ) → x % 2 ^ (k + 1) ≡ n → n < 2 ^ k → sext x k ≡ pos n
unfolding sext
sext_pos x k n e h = rw (e, lt-ltb n (2 ^ k) h)

pub sext_neg : (x k n : ℕ) → x % 2 ^ (k + 1) ≡ n → 2 ^ k ≤ n → sext x k ≡ pos n -ℤ pos (2 ^ (k + 1))
unfolding sext
sext_neg x k n e h = rw (e, le-ltb n (2 ^ k) h)

pub pos_down : (a b : ℕ) → a < b → pos a -ℤ pos b ≡ negsuc (b - suc a)
pos_down a zero h = let z : ⊥ = omega arith in absurd z
pos_down a (suc d) h = rw (lt-ltb a (suc d) h)

pub pos_up : (a b : ℕ) → b ≤ a → pos a -ℤ pos b ≡ pos (a - b)
pos_up a zero h = ap pos (omega arith)
pos_up a (suc d) h = rw (le-ltb a (suc d) h)

mag_down : (n w m : ℕ) → n < w → w ≤ n + m → mag (pos n -ℤ pos w) < m
mag_down n w m h k = rw (pos_down n w h) (omega arith)

pub twice : (k : ℕ) → 2 ^ (k + 1) ≡ 2 ^ k + 2 ^ k
twice k = rw (add-one k) (omega (arith, pow-suc 2 k))

pub mag_sext : (x k : ℕ) → mag (sext x k) < 2 ^ k
unfolding sext
mag_sext x k = pick (ltb (x % 2 ^ (k + 1)) (2 ^ k)) refl
  where
    pick : (t : Bool) → ltb (x % 2 ^ (k + 1)) (2 ^ k) ≡ t → mag (cond t (pos (x % 2 ^ (k + 1))) (pos (x % 2 ^ (k + 1)) -ℤ pos (2 ^ (k + 1)))) < 2 ^ k
    pick true e = ltb-true (x % 2 ^ (k + 1)) (2 ^ k) e
    pick false e =
        mag_down (x % 2 ^ (k + 1)) (2 ^ (k + 1)) (2 ^ k) (mod-lt x (Pow.pow_pos (k + 1))) (omega (arith, ltb-false (x % 2 ^ (k + 1)) (2 ^ k) e, twice k))

pub mag_widen : (s : Bool) (x : ℕ) → x < 256 → mag (widen s x) < 256
unfolding widen
mag_widen false x h = h
mag_widen true x h = omega (arith, mag_sext x 7)

-- bit k turned over
pub flip_up : (k n : ℕ) → n < 2 ^ k → bit_xor n (2 ^ k) ≡ n + 2 ^ k
flip_up k n h = xor_comm n (2 ^ k) ∙ (simp one-mul at (xor_shifted 1 k n h)) ∙ omega arith

pub flip_down : (k n : ℕ) → 2 ^ k ≤ n → n < 2 ^ k + 2 ^ k → bit_xor n (2 ^ k) ≡ n - 2 ^ k
flip_down k n h l =
    let up : n ≡ 1 * 2 ^ k + (n - 2 ^ k) = omega arith in
    let bit : 2 ^ k ≡ 1 * 2 ^ k + 0 = omega arith in
    ap (λ (a : ℕ). bit_xor a (2 ^ k)) up ∙ ap (λ (b : ℕ). bit_xor (1 * 2 ^ k + (n - 2 ^ k)) b) bit
    ∙ xor_block k 1 1 (n - 2 ^ k) 0 (omega arith) (Pow.pow_pos k) ∙ rw (xor_zero_r (n - 2 ^ k)) (omega arith)

-- the sign bit turned over and taken away again reads the low k + 1 bits as a signed number
flip_sext : (x k : ℕ) → pos (bit_xor (x % 2 ^ (k + 1)) (2 ^ k)) -ℤ pos (2 ^ k) ≡ sext x k
flip_sext x k = pick (x % 2 ^ (k + 1)) (ltb (x % 2 ^ (k + 1)) (2 ^ k)) refl refl
  where
    pick : (n : ℕ) (t : Bool) → x % 2 ^ (k + 1) ≡ n → ltb n (2 ^ k) ≡ t → pos (bit_xor n (2 ^ k)) -ℤ pos (2 ^ k) ≡ sext x k
    pick n true e t =
        let l : n < 2 ^ k = ltb-true n (2 ^ k) t in
        rw (flip_up k n l, pos_up (n + 2 ^ k) (2 ^ k) (omega arith), sext_pos x k n e l) (ap pos (omega arith))
    pick n false e t =
        let l : 2 ^ k ≤ n = ltb-false n (2 ^ k) t in
        let two : 2 ^ (k + 1) ≡ 2 ^ k + 2 ^ k = twice k in
        let u : n < 2 ^ (k + 1) = omega (arith, mod-lt x (Pow.pow_pos (k + 1))) in
        rw (flip_down k n l (omega arith), pos_down (n - 2 ^ k) (2 ^ k) (omega arith), sext_neg x k n e l, pos_down n (2 ^ (k + 1)) u)
        (ap negsuc (omega arith))

-- what the code makes of a width: the sign bit, and the low k + 1 bits with it turned over
module _ (k : ℕ) (h : k < 16) where
  pub half_small : 2 ^ k ≤ 32768
  half_small = Pow.pow_mono {i = k} {j = 15} (omega arith)

  pub half_is : 1 * 2 ^ k % 2 ^ 32 ≡ 2 ^ k
  half_is = omega (arith, half_small)

  pub flipped_is : (x : ℕ) → bit_xor (bit_and x (2 ^ k + 2 ^ k - 1)) (2 ^ k) ≡ bit_xor (x % 2 ^ (k + 1)) (2 ^ k)
  flipped_is x = rw (← twice k, and_mask x (k + 1))

  pub flipped_small : (x : ℕ) → bit_xor (x % 2 ^ (k + 1)) (2 ^ k) < 65536
  flipped_small x =
      xor_lt 16 (x % 2 ^ (k + 1)) (2 ^ k) (omega (arith, mod-lt x (Pow.pow_pos (k + 1)), twice k, half_small)) (omega (arith, half_small))

  pub flipped_z : (x : ℕ) → to_z w32 (bit_xor (x % 2 ^ (k + 1)) (2 ^ k)) -ℤ to_z w32 (2 ^ k) ≡ sext x k
  flipped_z x =
      rw (byte_z (bit_xor (x % 2 ^ (k + 1)) (2 ^ k)) (omega (arith, flipped_small x)), byte_z (2 ^ k) (omega (arith, half_small))) (flip_sext x k)

  pub sext_fits : (x : ℕ) → SFits w32 (sext x k)
  sext_fits x = record { sfits = omega (arith, mag_sext x k, half_small) }

-- the low k bits, as the code takes them
low_neg : (j k n : ℕ) → j + k ≡ 32 → n < 2 ^ 32 → (2 ^ 32 - suc n) % 2 ^ k ≡ (2 ^ k - 1) - n % 2 ^ k
low_neg j k n e h =
    let whole : 2 ^ j * 2 ^ k ≡ 2 ^ 32 = sym (Pow.pow-add 2 j k) ∙ ap (λ (m : ℕ). 2 ^ m) e in
    let q : n / 2 ^ k < 2 ^ j = Pow.shr_lt j k (rw e h) in
    let parts : (2 ^ j - suc (n / 2 ^ k)) * 2 ^ k + suc (n / 2 ^ k) * 2 ^ k ≡ 2 ^ j * 2 ^ k =
    sym (add-mul (2 ^ j - suc (n / 2 ^ k)) (suc (n / 2 ^ k)) (2 ^ k)) ∙ ap (λ (m : ℕ). m * 2 ^ k) (omega arith) in
    let is : 2 ^ 32 - suc n ≡ (2 ^ j - suc (n / 2 ^ k)) * 2 ^ k + ((2 ^ k - 1) - n % 2 ^ k) =
    omega (arith, suc-mul (n / 2 ^ k) (2 ^ k), Pow.split n k, mod-lt n (Pow.pow_pos k)) in
    rw is (Pow.low (2 ^ j - suc (n / 2 ^ k)) k (Pow.ones_sub-lt k (n % 2 ^ k)))

pub low_is : (j k : ℕ) → j + k ≡ 32 → (z : ℤ) → SFits w32 z → bit_and (of_z w32 z) (2 ^ k - 1) ≡ low k z
unfolding low
low_is j k e (pos n) h = and_mask n k
low_is j k e (negsuc n) h = and_mask (2 ^ 32 - suc n) k ∙ low_neg j k n e (omega (arith, h.sfits))

pub low_lt : (k : ℕ) (z : ℤ) → low k z < 2 ^ k
unfolding low
low_lt k (pos n) = mod-lt n (Pow.pow_pos k)
low_lt k (negsuc n) = omega (arith, Pow.pow_pos k)

pub low_cast : (j k : ℕ) → suc j + k ≡ 32 → (z : ℤ) → SFits w32 z → to_z w32 (bit_and (of_z w32 z) (2 ^ k - 1)) ≡ pos (low k z)
low_cast j k e z h = rw (low_is (suc j) k e z h) (byte_z (low k z) (omega (arith, low_lt k z, Pow.pow_mono {i = k} {j = 31} (omega arith))))

pub back : (z : ℤ) → mag z < 2 ^ 31 → to_z w32 (of_z w32 z) ≡ z
back z h = F.to_z-of_z {w = w32} (record { sfits = h })

pub neg_back : (a : ℤ) → mag a < 256 → to_z w32 (of_z w32 (pos 0 -ℤ a)) ≡ neg_ℤ a
neg_back a h = F.to_z-of_z (sub_fits (pos 0) a (omega arith) h) ∙ +ℤ_idl (neg_ℤ a)

-- a callee's signed result, handed on
pub passed : {r z : ℤ} → mag r < 2 ^ 31 → r ≡ z → to_z w32 (of_z w32 r) ≡ z
passed {r} h e = back r h ∙ e

-- the magnitude
pub nat_abs_neg : (z : ℤ) → nat_abs (neg_ℤ z) ≡ nat_abs z
nat_abs_neg (pos zero) = refl
nat_abs_neg (pos (suc n)) = refl
nat_abs_neg (negsuc n) = refl

pub neg_natural : (z : ℤ) → lt_z z (pos 0) ≡ true → T (non_neg (neg_ℤ z))
neg_natural (pos n) e = let z : ⊥ = omega (arith, ltb-true n 0 e) in absurd z
neg_natural (negsuc n) e = tt

pub natural : (z : ℤ) → lt_z z (pos 0) ≡ false → T (non_neg z)
natural (pos n) e = tt
natural (negsuc n) e = absurd (subst T e tt)
