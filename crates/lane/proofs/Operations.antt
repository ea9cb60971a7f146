-- What each arithmetic operation makes of two bytes, in the forms of the code.
use Rattle.std.proofs.Common.{◌≡◌, ℕ, suc, ◌+◌, ◌-◌, ◌^◌, ◌<◌, min, max, Bool, true, false, cond, ltb, ℤ, pos, negsuc, ◌+ℤ◌, ◌-ℤ◌, neg_ℤ, nat_abs, sym, refl, ap, ◌∙◌, arith, to_z-of_z, w8, w32, SFits, to_z, of_z, ltb-false, ltb-true, le-ltb}
use lib.Signed.{mag, lt_z}
use Rattle.std.specs.Int.{int_min, int_max}
use Rattle.std.proofs.Math.Facts.{of_z-to_z}
use Rattle.std.proofs.Math.Nat.{min_comm, max_comm}
use Rattle.signed.specs.Signed.{sext, widen, low, clip}
use Rattle.signed.proofs.Z.{passed, mag_sext, add_fits, sub_fits, neg_back, pos_down, pos_up}
use Rattle.lane.specs.declared.Calc.TheVariants.{Min, Max, Abs, Add, Sub}
use Rattle.lane.specs.Lane.{Lane, saturated, result, told, arith_lane}
use Rattle.lane.proofs.Biased.{by_half, sext_low, sext_high, signed_is, signed_back}
use Rattle.lane.proofs.Saturated.{moved, within, above, below}

-- the lesser and the greater of two, whichever is tested first
least : (x y : ℕ) → cond (ltb x y) x y ≡ min x y
least x y = pick (ltb x y) refl
  where
    pick : (t : Bool) → ltb x y ≡ t → cond t x y ≡ min x y
    pick true e = let h = ltb-true x y e in omega arith
    pick false e = let h = ltb-false x y e in omega arith

most : (x y : ℕ) → cond (ltb x y) y x ≡ max x y
most x y = pick (ltb x y) refl
  where
    pick : (t : Bool) → ltb x y ≡ t → cond t y x ≡ max x y
    pick true e = let h = ltb-true x y e in omega arith
    pick false e = let h = ltb-false x y e in omega arith

push : (f : ℕ → ℤ) (t : Bool) (a b : ℕ) → cond t (f a) (f b) ≡ f (cond t a b)
push f true a b = refl
push f false a b = refl

lesser : (a b : ℤ) → int_min a b ≡ cond (lt_z a b) a b
lesser (pos m) (pos n) = rw (push pos (ltb n m) n m, push pos (ltb m n) m n) (ap pos (least n m ∙ min_comm n m ∙ sym (least m n)))
lesser (pos m) (negsuc n) = refl
lesser (negsuc m) (pos n) = refl
lesser (negsuc m) (negsuc n) = rw (push negsuc (ltb m n) n m, push negsuc (ltb n m) m n) (ap negsuc (most m n ∙ max_comm m n ∙ sym (most n m)))

greater : (a b : ℤ) → int_max a b ≡ cond (lt_z a b) b a
greater (pos m) (pos n) = rw (push pos (ltb n m) m n, push pos (ltb m n) n m) (ap pos (most n m ∙ max_comm n m ∙ sym (most m n)))
greater (pos m) (negsuc n) = refl
greater (negsuc m) (pos n) = refl
greater (negsuc m) (negsuc n) = rw (push negsuc (ltb m n) m n, push negsuc (ltb n m) n m) (ap negsuc (least m n ∙ min_comm m n ∙ sym (least n m)))

-- signed: a number from 0 upwards, saturated
capped : (n : ℕ) → (saturated true (pos n)).byte ≡ min n 127
unfolding saturated clip low
capped n = pick (ltb 0x7f n) refl
  where
    pick : (t : Bool) → ltb 0x7f n ≡ t → low 8 (cond t (pos 0x7f) (pos n)) ≡ min n 127
    pick true e = let h = ltb-true 0x7f n e in omega arith
    pick false e = let h = ltb-false 0x7f n e in omega arith

-- a byte read as a signed number is not saturated
back : (x : ℕ) → x < 256 → (saturated true (sext x 7)).byte ≡ x
unfolding saturated clip low
back =
    by_half (λ x. (saturated true (sext x 7)).byte ≡ x)
    (λ x h. rw (sext_low x h, le-ltb 0x7f x (omega arith)) (omega arith))
    (λ x h. rw (sext_high x h, le-ltb 0x7f (127 - x) (omega arith)) (omega arith))

picked : (t : Bool) (x y : ℕ) → x < 256 → y < 256 → of_z w8 (to_z w8 (of_z w8 (cond t (sext x 7) (sext y 7)))) ≡ (saturated true (cond t (sext x 7) (sext y 7))).byte
picked true x y h k = rw (signed_back x h (sym (signed_is x h)), back x h, ← signed_is x h) (of_z-to_z {w = w8} {n = x} (record { fits = h }))
picked false x y h k = rw (signed_back y k (sym (signed_is y k)), back y k, ← signed_is y k) (of_z-to_z {w = w8} {n = y} (record { fits = k }))

module _ (x y : ℕ) {a b m : ℤ} {r : ℕ} (h : x < 256) (k : y < 256) (p : a ≡ to_z w8 x) (q : b ≡ to_z w8 y) where
  pub min_signed : m ≡ int_min (to_z w8 (of_z w8 a)) (to_z w8 (of_z w8 b)) → r ≡ of_z w8 (to_z w8 (of_z w8 m)) → r ≡ (arith_lane Min true x y).byte
  unfolding arith_lane result widen
  min_signed e f = rw (f, e, signed_back x h p, signed_back y k q, lesser (sext x 7) (sext y 7)) (picked (lt_z (sext x 7) (sext y 7)) x y h k)

  pub max_signed : m ≡ int_max (to_z w8 (of_z w8 a)) (to_z w8 (of_z w8 b)) → r ≡ of_z w8 (to_z w8 (of_z w8 m)) → r ≡ (arith_lane Max true x y).byte
  unfolding arith_lane result widen
  max_signed e f = rw (f, e, signed_back x h p, signed_back y k q, greater (sext x 7) (sext y 7)) (picked (lt_z (sext x 7) (sext y 7)) y x k h)

-- a magnitude
size_is : (z : ℤ) → cond (lt_z z (pos 0)) (neg_ℤ z) z ≡ pos (nat_abs z)
size_is (pos n) = rw (le-ltb n 0 (omega arith))
size_is (negsuc n) = refl

pub abs_signed : (x : ℕ) → min (nat_abs (sext x 7)) 127 ≡ (arith_lane Abs true x 0).byte
unfolding arith_lane result widen
abs_signed x = rw (size_is (sext x 7)) (sym (capped (nat_abs (sext x 7))))

-- a sum, a difference and a negation of signed bytes fit, and come back as they were
small : (x : ℕ) → mag (sext x 7) < 256
small x = omega (arith, mag_sext x 7)

module _ (x y : ℕ) where
  pub sum_fits : SFits w32 (sext x 7 +ℤ sext y 7)
  sum_fits = add_fits (sext x 7) (sext y 7) (small x) (small y)

  pub difference_fits : SFits w32 (sext x 7 -ℤ sext y 7)
  difference_fits = sub_fits (sext x 7) (sext y 7) (small x) (small y)

-- the same where each of the two comes from a call
module _ (f : ℤ → ℤ → ℤ) (fits : (x y : ℕ) → SFits w32 (f (sext x 7) (sext y 7))) (x y : ℕ) {u v : ℤ} where
  module _ (mu : mag u < 2 ^ 31) (eu : u ≡ sext x 7) (mv : mag v < 2 ^ 31) (ev : v ≡ sext y 7) where
    pub passed_fits : SFits w32 (f (to_z w32 (of_z w32 u)) (to_z w32 (of_z w32 v)))
    passed_fits = rw (passed mu eu, passed mv ev) (fits x y)

    pub passed_back : to_z w32 (of_z w32 (f (to_z w32 (of_z w32 u)) (to_z w32 (of_z w32 v)))) ≡ f (sext x 7) (sext y 7)
    passed_back = rw (passed mu eu, passed mv ev) (to_z-of_z (fits x y))

pub negation_fits : (x : ℕ) → SFits w32 (pos 0 -ℤ sext x 7)
negation_fits x = sub_fits (pos 0) (sext x 7) (omega arith) (small x)

pub negation_back : (x : ℕ) → to_z w32 (of_z w32 (pos 0 -ℤ sext x 7)) ≡ neg_ℤ (sext x 7)
negation_back x = neg_back (sext x 7) (small x)

-- such a result, saturated and cut to its byte
pub clip_byte : {r : ℕ} {v z w : ℤ} → r ≡ low 8 (to_z w32 (of_z w32 v)) → mag v < 2 ^ 31 → v ≡ clip (negsuc 0x7f) (pos 0x7f) z → z ≡ w
    → r ≡ (saturated true w).byte
unfolding saturated
clip_byte e m f g = e ∙ ap (low 8) (passed m f) ∙ ap (λ (z : ℤ). low 8 (clip (negsuc 0x7f) (pos 0x7f) z)) g

-- unsigned
between : (t : Bool) (x y : ℕ) → x < 256 → y < 256 → saturated false (cond t (pos x) (pos y)) ≡ moved false 0 (cond t x y)
between true x y h k = within x h
between false x y h k = within y k

pub min_unsigned : (x y : ℕ) → x < 256 → y < 256 → arith_lane Min false x y ≡ moved false 0 (cond (ltb x y) x y)
unfolding arith_lane result widen
min_unsigned x y h k = ap (told false) (between (ltb x y) x y h k)

pub max_unsigned : (x y : ℕ) → x < 256 → y < 256 → arith_lane Max false x y ≡ moved false 0 (cond (ltb x y) y x)
unfolding arith_lane result widen
max_unsigned x y h k = ap (told false) (between (ltb x y) y x k h)

pub abs_unsigned : (x y : ℕ) → x < 256 → arith_lane Abs false x y ≡ moved false 0 x
unfolding arith_lane result widen
abs_unsigned x y h = rw (le-ltb x 0 (omega arith)) (within x h)

module _ (x y : ℕ) (h : x < 256) (k : y < 256) where
  pub min_byte : (arith_lane Min false x y).byte ≡ min x y
  min_byte = ap (λ (l : Lane). l.byte) (min_unsigned x y h k) ∙ least x y

  pub max_byte : (arith_lane Max false x y).byte ≡ max x y
  max_byte = ap (λ (l : Lane). l.byte) (max_unsigned x y h k) ∙ most x y

  pub add_byte : (arith_lane Add false x y).byte ≡ min (x + y) 255
  unfolding arith_lane result widen
  add_byte = pick (ltb (x + y) 256) refl
    where
      pick : (t : Bool) → ltb (x + y) 256 ≡ t → (saturated false (pos (x + y))).byte ≡ min (x + y) 255
      pick true e = let l = ltb-true (x + y) 256 e in rw (within (x + y) l) (omega arith)
      pick false e = let l = ltb-false (x + y) 256 e in rw (above (x + y) l) (omega arith)

  pub sub_byte : (arith_lane Sub false x y).byte ≡ x - y
  unfolding arith_lane result widen
  sub_byte = pick (ltb x y) refl
    where
      pick : (t : Bool) → ltb x y ≡ t → (saturated false (pos x -ℤ pos y)).byte ≡ x - y
      pick true e = let l = ltb-true x y e in rw (pos_down x y l, below (y - suc x) 0) (omega arith)
      pick false e = let l = ltb-false x y e in rw (pos_up x y l, within (x - y) (omega arith))
