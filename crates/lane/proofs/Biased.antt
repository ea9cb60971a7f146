-- Signed bytes by the unsigned ones that differ from them in bit 7: the order is the same.
use Rattle.std.proofs.Common.{◌≡◌, ℕ, ◌+◌, ◌-◌, ◌<◌, Bool, true, false, cond, ltb, ℤ, pos, negsuc, w8, to_z, of_z, sym, refl, ap, ◌∙◌, subst, arith, ltb-false, ltb-true, le-ltb, lt-ltb}
use lib.Bits.{bit_xor, xor_lt}
use lib.Signed.{lt_z}
use Rattle.std.proofs.Math.Facts.{to_z-of_z, sfits_to_z, to_z_pos}
use Rattle.signed.specs.Signed.{sext, low}
use Rattle.signed.proofs.Z.{sext_pos, sext_neg, flip_up, flip_down}

flip_low : (x : ℕ) → x < 128 → bit_xor x 128 ≡ x + 128
flip_low x h = flip_up 7 x h

flip_high : (x : ℕ) → x < 128 → bit_xor (x + 128) 128 ≡ x
flip_high x h = flip_down 7 (x + 128) (omega arith) (omega arith) ∙ omega arith

pub flip_lt : {x : ℕ} → x < 256 → bit_xor x 128 < 256
flip_lt {x} h = xor_lt 8 x 128 h (omega arith)

-- a law of all bytes by that of the numbers below 128
pub by_half : (P : ℕ → Type 0) → ((x : ℕ) → x < 128 → P x) → ((x : ℕ) → x < 128 → P (x + 128)) → (x : ℕ) → x < 256 → P x
by_half P f g x h = pick (ltb x 128) refl
  where
    pick : (t : Bool) → ltb x 128 ≡ t → P x
    pick true e = f x (ltb-true x 128 e)
    pick false e =
        let k = ltb-false x 128 e in
        let same : (x - 128) + 128 ≡ x = omega arith in subst P same (g (x - 128) (omega arith))

pub flip_flip : (x : ℕ) → x < 256 → bit_xor (bit_xor x 128) 128 ≡ x
flip_flip = by_half (λ x. bit_xor (bit_xor x 128) 128 ≡ x) (λ x h. rw (flip_low x h) (flip_high x h)) (λ x h. rw (flip_high x h) (flip_low x h))

-- the signed number of a flipped byte
unfoldable pub off : ℕ → ℤ
off p = cond (ltb p 128) (negsuc (127 - p)) (pos (p - 128))

off_low : (p : ℕ) → p < 128 → off p ≡ negsuc (127 - p)
unfolding off
off_low p h = rw (lt-ltb p 128 h)

off_high : (p : ℕ) → off (p + 128) ≡ pos p
unfolding off
off_high p = let e : p + 128 - 128 ≡ p = omega arith in rw (le-ltb (p + 128) 128 (omega arith), e)

pub sext_low : (x : ℕ) → x < 128 → sext x 7 ≡ pos x
sext_low x h = sext_pos x 7 x (omega arith) h

pub sext_high : (x : ℕ) → x < 128 → sext (x + 128) 7 ≡ negsuc (127 - x)
sext_high x h = sext_neg (x + 128) 7 (x + 128) (omega arith) (omega arith) ∙ rw (lt-ltb (x + 128) 256 (omega arith)) (ap negsuc (omega arith))

pub sext_off : (x : ℕ) → x < 256 → sext x 7 ≡ off (bit_xor x 128)
sext_off =
    by_half (λ x. sext x 7 ≡ off (bit_xor x 128))
    (λ x h. rw (flip_low x h) (sext_low x h ∙ sym (off_high x)))
    (λ x h. rw (flip_high x h) (sext_high x h ∙ sym (off_low x h)))

-- a byte read as a signed number, by `cast_signed`, and read again
pub signed_is : (x : ℕ) → x < 256 → to_z w8 x ≡ sext x 7
signed_is =
    by_half (λ x. to_z w8 x ≡ sext x 7)
    (λ x h. rw (sext_low x h) (to_z_pos w8 h))
    (λ x h. rw (sext_high x h, le-ltb (x + 128) 128 (omega arith)) (ap negsuc (omega arith)))

pub signed_back : (x : ℕ) {z : ℤ} → x < 256 → z ≡ to_z w8 x → to_z w8 (of_z w8 z) ≡ sext x 7
signed_back x h e = rw e (to_z-of_z (sfits_to_z {w = w8} {n = x} (record { fits = h })) ∙ signed_is x h)

pub low_off : (p : ℕ) → p < 256 → low 8 (off p) ≡ bit_xor p 128
unfolding low
low_off = by_half (λ p. low 8 (off p) ≡ bit_xor p 128) (λ p h. rw (flip_low p h, off_low p h) (omega arith)) (λ p h. rw (flip_high p h, off_high p) (omega arith))

same_test : (a b c d : ℕ) → (a < b → c < d) → (c < d → a < b) → ltb a b ≡ ltb c d
same_test a b c d f g = pick (ltb a b) (ltb c d) refl refl
  where
    pick : (s t : Bool) → ltb a b ≡ s → ltb c d ≡ t → s ≡ t
    pick true true p q = refl
    pick false false p q = refl
    pick true false p q = let z : ⊥ = omega (arith, f (ltb-true a b p), ltb-false c d q) in absurd z
    pick false true p q = let z : ⊥ = omega (arith, g (ltb-true c d q), ltb-false a b p) in absurd z

pub lt_z_off : (p q : ℕ) → lt_z (off p) (off q) ≡ ltb p q
unfolding off
lt_z_off p q = pick (ltb p 128) (ltb q 128) refl refl
  where
    pick : (s t : Bool) → ltb p 128 ≡ s → ltb q 128 ≡ t
        → lt_z (cond s (negsuc (127 - p)) (pos (p - 128))) (cond t (negsuc (127 - q)) (pos (q - 128))) ≡ ltb p q
    pick true true e f =
        let h = ltb-true p 128 e in let k = ltb-true q 128 f in same_test (127 - q) (127 - p) p q (λ l. omega arith) (λ l. omega arith)
    pick true false e f = let h = ltb-true p 128 e in let k = ltb-false q 128 f in sym (lt-ltb p q (omega arith))
    pick false true e f = let h = ltb-false p 128 e in let k = ltb-true q 128 f in sym (le-ltb p q (omega arith))
    pick false false e f =
        let h = ltb-false p 128 e in let k = ltb-false q 128 f in same_test (p - 128) (q - 128) p q (λ l. omega arith) (λ l. omega arith)

pub cond_off : (t : Bool) (a b : ℕ) → cond t (off a) (off b) ≡ off (cond t a b)
cond_off true a b = refl
cond_off false a b = refl
