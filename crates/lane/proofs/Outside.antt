-- Signed bytes as differences of natural numbers, and where their sums, differences and negations lie outside the clip range; bit 7 of
-- bytes, which tells it.
use Rattle.std.proofs.Common.{◌≡◌, ℕ, zero, suc, ◌+◌, ◌-◌, ◌/◌, ◌%◌, ◌<◌, ◌≤◌, Bool, true, false, cond, eqb, ltb, leb, ℤ, pos, negsuc, ◌+ℤ◌, ◌-ℤ◌, neg_ℤ, refl, ap, ◌∙◌, arith, ltb-false, ltb-true, le-ltb, lt-ltb, eq-eqb, ne_eqb, eqb-true, leb-false, leb-true}
use lib.Bits.{bit_and, bit_or, bit_xor, and_shr, or_shr, xor_shr}
use lib.IntN.{sub_ℕ}
use lib.Signed.{mag, lt_z}
use borrow.Author.Tests.{eqb-false}
use Rattle.signed.specs.Signed.{sext, widen}
use Rattle.signed.proofs.Z.{sext_neg, mag_sext, pos_down, pos_up}
use Rattle.lane.specs.declared.Calc.TheVariants.{Abs, Neg, Add, Sub}
use Rattle.lane.specs.Lane.{outside, saturated, result, arith_lane}
use Rattle.lane.proofs.Biased.{sext_low}
use Rattle.lane.proofs.Saturated.{within, above, below}

-- ---- differences of natural numbers

-- only how far the two are apart counts
same : (m n k l : ℕ) → m + l ≡ k + n → sub_ℕ m n ≡ sub_ℕ k l
same m n k l e = pick (ltb m n) (ltb k l) refl refl
  where
    pick : (s t : Bool) → ltb m n ≡ s → ltb k l ≡ t → cond s (negsuc (n - suc m)) (pos (m - n)) ≡ cond t (negsuc (l - suc k)) (pos (k - l))
    pick true true p q = let h = ltb-true m n p in let i = ltb-true k l q in ap negsuc (omega arith)
    pick true false p q = let z : ⊥ = omega (arith, ltb-true m n p, ltb-false k l q) in absurd z
    pick false true p q = let z : ⊥ = omega (arith, ltb-false m n p, ltb-true k l q) in absurd z
    pick false false p q = let h = ltb-false m n p in let i = ltb-false k l q in ap pos (omega arith)

sum : (a b c d : ℕ) → sub_ℕ a b +ℤ sub_ℕ c d ≡ sub_ℕ (a + c) (b + d)
sum a b c d = pick (ltb a b) (ltb c d) refl refl
  where
    pick : (s t : Bool) → ltb a b ≡ s → ltb c d ≡ t
        → cond s (negsuc (b - suc a)) (pos (a - b)) +ℤ cond t (negsuc (d - suc c)) (pos (c - d)) ≡ sub_ℕ (a + c) (b + d)
    pick true true p q =
        let h = ltb-true a b p in let i = ltb-true c d q in rw (lt-ltb (a + c) (b + d) (omega arith)) (ap negsuc (omega arith))
    pick true false p q =
        let h = ltb-true a b p in let i = ltb-false c d q in same (c - d) (suc (b - suc a)) (a + c) (b + d) (omega arith)
    pick false true p q =
        let h = ltb-false a b p in let i = ltb-true c d q in same (a - b) (suc (d - suc c)) (a + c) (b + d) (omega arith)
    pick false false p q =
        let h = ltb-false a b p in let i = ltb-false c d q in rw (le-ltb (a + c) (b + d) (omega arith)) (ap pos (omega arith))

opposite : (a b : ℕ) → neg_ℤ (sub_ℕ a b) ≡ sub_ℕ b a
opposite a b = pick (ltb a b) refl
  where
    below_zero : (n : ℕ) → neg_ℤ (pos n) ≡ sub_ℕ 0 n
    below_zero zero = refl
    below_zero (suc n) = rw (lt-ltb 0 (suc n) (omega arith)) (ap negsuc (omega arith))

    pick : (t : Bool) → ltb a b ≡ t → neg_ℤ (cond t (negsuc (b - suc a)) (pos (a - b))) ≡ sub_ℕ b a
    pick true e = let h = ltb-true a b e in rw (le-ltb b a (omega arith)) (ap pos (omega arith))
    pick false e = let h = ltb-false a b e in below_zero (a - b) ∙ same 0 (a - b) b a (omega arith)

-- where one lies outside the signed range
over : (m n : ℕ) → n + 127 < m → outside true (sub_ℕ m n) ≡ true
unfolding outside
over m n h = rw (le-ltb m n (omega arith), lt-ltb 0x7f (m - n) (omega arith))

under : (m n : ℕ) → m + 128 < n → outside true (sub_ℕ m n) ≡ true
unfolding outside
under m n h = rw (lt-ltb m n (omega arith), lt-ltb 0x7f (n - suc m) (omega arith))

inside : (m n : ℕ) → m ≤ n + 127 → n ≤ m + 128 → outside true (sub_ℕ m n) ≡ false
unfolding outside
inside m n h k = pick (ltb m n) refl
  where
    pick : (t : Bool) → ltb m n ≡ t → outside true (cond t (negsuc (n - suc m)) (pos (m - n))) ≡ false
    pick true e = let l = ltb-true m n e in rw (le-ltb 0x7f (n - suc m) (omega arith))
    pick false e = let l = ltb-false m n e in rw (le-ltb 0x7f (m - n) (omega arith))

-- ---- bit 7

-- what bit 7 says of a byte
abbrev Half : Bool → ℕ → Type 0
Half true x = 128 ≤ x
Half false x = x < 128

half : (x : ℕ) → Half (leb 128 x) x
half x = pick (leb 128 x) refl
  where
    pick : (t : Bool) → leb 128 x ≡ t → Half t x
    pick true e = leb-true 128 x e
    pick false e = leb-false 128 x e

top : (t : Bool) {x : ℕ} → x < 256 → Half t x → x / 128 ≡ cond t 1 0
top true h k = omega arith
top false h k = omega arith

-- a byte read as a signed number is 256 less where its bit 7 is set
less : (t : Bool) (x : ℕ) → x < 256 → Half t x → sext x 7 ≡ sub_ℕ x (cond t 256 0)
less true x h k = sext_neg x 7 x (omega arith) k
less false x h k = sext_low x k ∙ rw (le-ltb x 0 (omega arith)) (ap pos (omega arith))

-- a law of bit 7 of three bytes by its eight cases
by_bits : (P : ℕ → ℕ → ℕ → Type 0) {x y z : ℕ} → x < 256 → y < 256 → z < 256
    → ((a b c : Bool) → Half a x → Half b y → Half c z → P (cond a 1 0) (cond b 1 0) (cond c 1 0)) → P (x / 128) (y / 128) (z / 128)
by_bits P {x} {y} {z} hx hy hz f =
    rw (top (leb 128 x) hx (half x), top (leb 128 y) hy (half y), top (leb 128 z) hz (half z))
    (f (leb 128 x) (leb 128 y) (leb 128 z) (half x) (half y) (half z))

-- ---- the forms of the code: signed sums and differences, and a carry

module _ (x y t : ℕ) (hx : x < 256) (hy : y < 256) (ht : t < 256) where
  -- a sum lies outside where its bit 7 is neither addend's
  pub sum_told : t ≡ (x + y) % 256 → bit_and (bit_xor x t) (bit_xor y t) / 128 ≡ cond (arith_lane Add true x y).clipped 1 0
  unfolding arith_lane saturated result widen
  sum_told e =
      rw (and_shr (bit_xor x t) (bit_xor y t) 7, xor_shr x t 7, xor_shr y t 7)
      (by_bits (λ a b c. bit_and (bit_xor a c) (bit_xor b c) ≡ cond (outside true (sext x 7 +ℤ sext y 7)) 1 0) hx hy ht
      (λ a b c h k l. rw (less a x hx h, less b y hy k, sum x (cond a 256 0) y (cond b 256 0)) (table a b c h k l)))
    where
      table : (a b c : Bool) → Half a x → Half b y → Half c t
          → bit_and (bit_xor (cond a 1 0) (cond c 1 0)) (bit_xor (cond b 1 0) (cond c 1 0)) ≡ cond (outside true (sub_ℕ (x + y) (cond a 256 0 + cond b 256 0))) 1 0
      table true true true h k l = rw (inside (x + y) 512 (omega arith) (omega arith))
      table true true false h k l = rw (under (x + y) 512 (omega arith))
      table true false true h k l = rw (inside (x + y) 256 (omega arith) (omega arith))
      table true false false h k l = rw (inside (x + y) 256 (omega arith) (omega arith))
      table false true true h k l = rw (inside (x + y) 256 (omega arith) (omega arith))
      table false true false h k l = rw (inside (x + y) 256 (omega arith) (omega arith))
      table false false true h k l = rw (over (x + y) 0 (omega arith))
      table false false false h k l = rw (inside (x + y) 0 (omega arith) (omega arith))

  -- a difference does where the signs differ and its bit 7 is not the first one's
  pub difference_told : (t + y) % 256 ≡ x → bit_and (bit_xor x y) (bit_xor x t) / 128 ≡ cond (arith_lane Sub true x y).clipped 1 0
  unfolding arith_lane saturated result widen
  difference_told e =
      rw (and_shr (bit_xor x y) (bit_xor x t) 7, xor_shr x y 7, xor_shr x t 7)
      (by_bits (λ a b c. bit_and (bit_xor a b) (bit_xor a c) ≡ cond (outside true (sext x 7 -ℤ sext y 7)) 1 0) hx hy ht
      (λ a b c h k l.
      rw (less a x hx h, less b y hy k, opposite y (cond b 256 0), sum x (cond a 256 0) (cond b 256 0) y) (table a b c h k l)))
    where
      table : (a b c : Bool) → Half a x → Half b y → Half c t
          → bit_and (bit_xor (cond a 1 0) (cond b 1 0)) (bit_xor (cond a 1 0) (cond c 1 0)) ≡ cond (outside true (sub_ℕ (x + cond b 256 0) (cond a 256 0 + y))) 1 0
      table true true true h k l = rw (inside (x + 256) (256 + y) (omega arith) (omega arith))
      table true true false h k l = rw (inside (x + 256) (256 + y) (omega arith) (omega arith))
      table true false true h k l = rw (inside (x + 0) (256 + y) (omega arith) (omega arith))
      table true false false h k l = rw (under (x + 0) (256 + y) (omega arith))
      table false true true h k l = rw (over (x + 256) (0 + y) (omega arith))
      table false true false h k l = rw (inside (x + 256) (0 + y) (omega arith) (omega arith))
      table false false true h k l = rw (inside (x + 0) (0 + y) (omega arith) (omega arith))
      table false false false h k l = rw (inside (x + 0) (0 + y) (omega arith) (omega arith))

  -- bit 8 of a sum: both have bit 7, or one has it and the sum's low byte has not
  pub carry_is : t ≡ (x + y) % 256 → bit_or (bit_and x y) (bit_and (bit_or x y) (bit_xor t 255)) / 128 ≡ (x + y) / 256
  carry_is e =
      rw (or_shr (bit_and x y) (bit_and (bit_or x y) (bit_xor t 255)) 7, and_shr x y 7, and_shr (bit_or x y) (bit_xor t 255) 7, or_shr x y 7, xor_shr t 255 7)
      (by_bits (λ a b c. bit_or (bit_and a b) (bit_and (bit_or a b) (bit_xor c 1)) ≡ (x + y) / 256) hx hy ht table)
    where
      table : (a b c : Bool) → Half a x → Half b y → Half c t
          → bit_or (bit_and (cond a 1 0) (cond b 1 0)) (bit_and (bit_or (cond a 1 0) (cond b 1 0)) (bit_xor (cond c 1 0) 1)) ≡ (x + y) / 256
      table true true true h k l = omega arith
      table true true false h k l = omega arith
      table true false true h k l = omega arith
      table true false false h k l = omega arith
      table false true true h k l = omega arith
      table false true false h k l = omega arith
      table false false true h k l = omega arith
      table false false false h k l = omega arith

-- bit 7 of a byte and of its negation: of 128 alone both have it
pub least_is : (x n : ℕ) → x < 256 → n < 256 → (n + x) % 256 ≡ 0 → bit_and x n / 128 ≡ cond (eqb x 128) 1 0
least_is x n hx hn e =
    rw (and_shr x n 7, top (leb 128 x) hx (half x), top (leb 128 n) hn (half n)) (table (leb 128 x) (leb 128 n) (half x) (half n))
  where
    table : (a b : Bool) → Half a x → Half b n → bit_and (cond a 1 0) (cond b 1 0) ≡ cond (eqb x 128) 1 0
    table true true h k = rw (eq-eqb x 128 (omega arith))
    table true false h k = rw (ne_eqb x 128 (λ f. omega arith))
    table false true h k = rw (ne_eqb x 128 (λ f. omega arith))
    table false false h k = rw (ne_eqb x 128 (λ f. omega arith))

-- of all signed bytes, -128 alone has a negation outside the range
negation : (x : ℕ) → x < 256 → outside true (neg_ℤ (sext x 7)) ≡ eqb x 128
negation x hx = rw (less (leb 128 x) x hx (half x), opposite x (cond (leb 128 x) 256 0)) (table (leb 128 x) (eqb x 128) (half x) refl)
  where
    table : (a b : Bool) → Half a x → eqb x 128 ≡ b → outside true (sub_ℕ (cond a 256 0) x) ≡ b
    table true true h e = over 256 x (omega (arith, eqb-true x 128 e))
    table true false h e = inside 256 x (omega (arith, eqb-false x 128 e)) (omega arith)
    table false true h e = let z : ⊥ = omega (arith, eqb-true x 128 e) in absurd z
    table false false h e = inside 0 x (omega arith) (omega arith)

-- a magnitude of a signed byte lies outside where the negation does
magnitude : (z : ℤ) → mag z < 128 → outside true (cond (lt_z z (pos 0)) (neg_ℤ z) z) ≡ outside true (neg_ℤ z)
unfolding outside
magnitude (pos zero) h = refl
magnitude (pos (suc n)) h = rw (le-ltb (suc n) 0 (omega arith), le-ltb 0x7f n (omega arith)) (le-ltb 0x7f (suc n) (omega arith))
magnitude (negsuc n) h = refl

module _ (x : ℕ) (h : x < 256) where
  pub negation_told : (arith_lane Neg true x 0).clipped ≡ eqb x 128
  unfolding arith_lane saturated result widen
  negation_told = negation x h

  pub magnitude_told : (arith_lane Abs true x 0).clipped ≡ eqb x 128
  unfolding arith_lane saturated result widen
  magnitude_told = magnitude (sext x 7) (mag_sext x 7) ∙ negation x h

-- ---- unsigned: a carry is the flag, of a difference that of y and 255 - x

-- 0 less a carry has all bits set, 0 less none is 0
spread : (t : Bool) {c r : ℕ} → c ≡ cond t 1 0 → r < 256 → (r + c) % 256 ≡ 0 → r ≡ cond t 255 0
spread true e h k = omega arith
spread false e h k = omega arith

module _ (x y : ℕ) (hx : x < 256) (hy : y < 256) where
  sum_carry : (x + y) / 256 ≡ cond (arith_lane Add false x y).sign 1 0
  unfolding arith_lane result widen
  sum_carry = pick (ltb (x + y) 256) refl
    where
      pick : (t : Bool) → ltb (x + y) 256 ≡ t → (x + y) / 256 ≡ cond (saturated false (pos (x + y))).sign 1 0
      pick true e = let h = ltb-true (x + y) 256 e in rw (within (x + y) h) (omega arith)
      pick false e = let h = ltb-false (x + y) 256 e in rw (above (x + y) h) (omega arith)

  difference_carry : (y + (255 - x)) / 256 ≡ cond (arith_lane Sub false x y).sign 1 0
  unfolding arith_lane result widen
  difference_carry = pick (ltb x y) refl
    where
      pick : (t : Bool) → ltb x y ≡ t → (y + (255 - x)) / 256 ≡ cond (saturated false (pos x -ℤ pos y)).sign 1 0
      pick true e = let h = ltb-true x y e in rw (pos_down x y h, below (y - suc x) 0) (omega arith)
      pick false e = let h = ltb-false x y e in rw (pos_up x y h, within (x - y) (omega arith)) (omega arith)

  module _ {c r : ℕ} (hr : r < 256) (back : (r + c) % 256 ≡ 0) where
    pub sum_flag : c ≡ (x + y) / 256 → r ≡ cond (arith_lane Add false x y).sign 255 0
    sum_flag e = spread (arith_lane Add false x y).sign (e ∙ sum_carry) hr back

    pub difference_flag : c ≡ (y + (255 - x)) / 256 → r ≡ cond (arith_lane Sub false x y).sign 255 0
    difference_flag e = spread (arith_lane Sub false x y).sign (e ∙ difference_carry) hr back
