-- Saturated results: their flags from their bytes.
use Rattle.std.proofs.Common.{◌≡◌, ℕ, ◌-◌, ◌%◌, ◌^◌, ◌<◌, ◌≤◌, Bool, true, false, cond, eqb, ltb, leb, ℤ, pos, negsuc, sym, refl, ◌∙◌, arith, ltb-false, ltb-true, le-ltb, lt-ltb, ne_eqb, le-leb}
use lib.Signed.{mag, lt_z}
use borrow.Author.Tests.{lt-leb}
use Rattle.signed.specs.Signed.{is_zero, low, clip}
use Rattle.lane.specs.Lane.{Lane, outside, saturated}

-- a small number's flags from its low byte
pub zero_small : (v : ℤ) → mag v < 128 → is_zero v ≡ eqb (low 8 v) 0
unfolding low
zero_small (pos n) h = let e : n % 2 ^ 8 ≡ n = omega arith in rw e
zero_small (negsuc n) h = sym (ne_eqb (2 ^ 8 - 1 - n % 2 ^ 8) 0 (λ e. omega arith))

sign_small : (v : ℤ) → mag v < 128 → leb 0x80 (low 8 v) ≡ lt_z v (pos 0)
unfolding low
sign_small (pos n) h = lt-leb 0x80 (n % 2 ^ 8) (omega arith) ∙ sym (le-ltb n 0 (omega arith))
sign_small (negsuc n) h = le-leb 0x80 (2 ^ 8 - 1 - n % 2 ^ 8) (omega arith)

-- saturated as a signed result
unfoldable pub into : ℤ → ℤ
into z = clip (negsuc 0x7f) (pos 0x7f) z

into_pos : (n : ℕ) → into (pos n) ≡ pos (cond (ltb 0x7f n) 0x7f n)
unfolding into clip
into_pos n = pick (ltb 0x7f n)
  where
    pick : (t : Bool) → cond t (pos 0x7f) (pos n) ≡ pos (cond t 0x7f n)
    pick true = refl
    pick false = refl

into_neg : (n : ℕ) → into (negsuc n) ≡ negsuc (cond (ltb 0x7f n) 0x7f n)
unfolding into clip
into_neg n = pick (ltb 0x7f n)
  where
    pick : (t : Bool) → cond t (negsuc 0x7f) (negsuc n) ≡ negsuc (cond t 0x7f n)
    pick true = refl
    pick false = refl

capped : (n : ℕ) → cond (ltb 0x7f n) 0x7f n < 128
capped n = pick (ltb 0x7f n) refl
  where
    pick : (t : Bool) → ltb 0x7f n ≡ t → cond t 0x7f n < 128
    pick true e = omega arith
    pick false e = omega (arith, ltb-false 0x7f n e)

pub into_small : (z : ℤ) → mag (into z) < 128
into_small (pos n) = rw (into_pos n) (capped n)
into_small (negsuc n) = rw (into_neg n) (capped n)

into_sign : (z : ℤ) → lt_z (into z) (pos 0) ≡ lt_z z (pos 0)
into_sign (pos n) = rw (into_pos n) (le-ltb (cond (ltb 0x7f n) 0x7f n) 0 (omega arith) ∙ sym (le-ltb n 0 (omega arith)))
into_sign (negsuc n) = rw (into_neg n) refl

pub signed_zero : (z : ℤ) → (saturated true z).zero ≡ eqb (saturated true z).byte 0
unfolding saturated into
signed_zero z = zero_small (into z) (into_small z)

pub signed_sign : (z : ℤ) → (saturated true z).sign ≡ leb 0x80 (saturated true z).byte
unfolding saturated into
signed_sign z = sym (sign_small (into z) (into_small z) ∙ into_sign z)

-- saturated as an unsigned result: the byte and whether it was moved
abbrev pub moved : Bool → ℕ → ℕ → Lane
moved t e n = record { byte = cond t e n; sign = t; zero = eqb (cond t e n) 0; clipped = t }

pub within : (n : ℕ) → n < 256 → saturated false (pos n) ≡ moved false 0 n
unfolding saturated outside clip low
within n h = let e : n % 2 ^ 8 ≡ n = omega arith in rw (le-ltb n 0 (omega arith), le-ltb 0xff n (omega arith), e)

pub above : (n : ℕ) → 256 ≤ n → saturated false (pos n) ≡ moved true 255 n
unfolding saturated outside clip low
above n h = rw (le-ltb n 0 (omega arith), lt-ltb 0xff n (omega arith))

pub below : (n m : ℕ) → saturated false (negsuc n) ≡ moved true 0 m
unfolding saturated outside clip low
below n m = refl

pub unsigned_zero : (z : ℤ) → (saturated false z).zero ≡ eqb (saturated false z).byte 0
unsigned_zero (negsuc n) = rw (below n 0)
unsigned_zero (pos n) = pick (ltb n 256) refl
  where
    pick : (t : Bool) → ltb n 256 ≡ t → (saturated false (pos n)).zero ≡ eqb (saturated false (pos n)).byte 0
    pick true e = rw (within n (ltb-true n 256 e))
    pick false e = rw (above n (ltb-false n 256 e))
