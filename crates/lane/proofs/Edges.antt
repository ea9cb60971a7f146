-- vclip's sign flag: where it is clear, and what it was while a value on an end did not count as clipped.
use Rattle.std.proofs.Common.{◌≡◌, ℕ, ◌<◌, ◌≤◌, Bool, true, false, cond, not, ◌&&◌, ◌||◌, eqb, ltb, leb, ℤ, pos, negsuc, sym, refl, ap, ◌∙◌, arith, ltb-false, ltb-true, le-ltb, lt-ltb, eq-eqb, ne_eqb, eqb-true, le-leb}
use mathlib.Core.Bool.{false≢true}
use lib.Bits.{bit_xor}
use lib.Signed.{lt_z, le_z}
use borrow.Author.Tests.{lt-leb, eqb-false}
use Rattle.signed.specs.Signed.{sext, low, is_zero}
use Rattle.lane.specs.Lane.{Lane, clip_between, clip_lane}
use Rattle.lane.proofs.Biased.{off, flip_flip, sext_off, lt_z_off, cond_off}

-- at or below: not above
not_above : (m n : ℕ) → leb m n ≡ not (ltb n m)
not_above m n = pick (ltb n m) refl
  where
    pick : (t : Bool) → ltb n m ≡ t → leb m n ≡ not t
    pick true e = lt-leb m n (ltb-true n m e)
    pick false e = le-leb m n (ltb-false n m e)

not_above_z : (a b : ℤ) → le_z a b ≡ not (lt_z b a)
not_above_z (pos m) (pos n) = not_above m n
not_above_z (pos m) (negsuc n) = refl
not_above_z (negsuc m) (pos n) = refl
not_above_z (negsuc m) (negsuc n) = not_above n m

lt_z_trans : (a b c : ℤ) → lt_z a b ≡ true → lt_z b c ≡ true → lt_z a c ≡ true
lt_z_trans (pos m) (pos n) (pos o) e f = lt-ltb m o (omega (arith, ltb-true m n e, ltb-true n o f))
lt_z_trans (pos m) (pos n) (negsuc o) e f = f
lt_z_trans (pos m) (negsuc n) c e f = absurd (false≢true e)
lt_z_trans (negsuc m) b (pos o) e f = refl
lt_z_trans (negsuc m) (pos n) (negsuc o) e f = absurd (false≢true f)
lt_z_trans (negsuc m) (negsuc n) (negsuc o) e f = lt-ltb o m (omega (arith, ltb-true n m e, ltb-true o n f))

between_clear : (s a b : ℤ) → (cond (lt_z a b) (clip_between false s a b) (clip_between true s b a)).sign ≡ not (lt_z a s && lt_z s b)
unfolding clip_between
between_clear s a b = pick (lt_z a b) refl
  where
    ordered : (t u : Bool) → (not t || not u) ≡ not (t && u)
    ordered true u = refl
    ordered false u = refl

    turned : (t u : Bool) → lt_z a s ≡ t → lt_z s b ≡ u → lt_z a b ≡ false → true ≡ not (t && u)
    turned true true f g e = absurd (false≢true (sym e ∙ lt_z_trans a s b f g))
    turned true false f g e = refl
    turned false u f g e = refl

    pick : (t : Bool) → lt_z a b ≡ t → (cond t (clip_between false s a b) (clip_between true s b a)).sign ≡ not (lt_z a s && lt_z s b)
    pick true e = rw (not_above_z s a, not_above_z b s) (ordered (lt_z a s) (lt_z s b))
    pick false e = turned (lt_z a s) (lt_z s b) refl refl e

-- the flag is clear exactly where source 2 < source 1 < source 3
pub clip_clear : (x y z : ℕ) → (clip_lane x y z).sign ≡ not (lt_z (sext y 7) (sext x 7) && lt_z (sext x 7) (sext z 7))
unfolding clip_lane
clip_clear x y z = between_clear (sext x 7) (sext y 7) (sext z 7)

-- ---- the former reading

-- s between start and end; the sign flag is set where s was moved, or already was set
unfoldable pub moved_between : Bool → ℤ → ℤ → ℤ → Lane
moved_between sf s start end =
    let res = cond (lt_z s start) start s in
    let out = cond (lt_z end res) end res in
    record { byte = low 8 out; sign = sf || (lt_z s start || lt_z end res); zero = is_zero out; clipped = false }

unfoldable pub moved_lane : ℕ → ℕ → ℕ → Lane
moved_lane x y z =
    cond (lt_z (sext y 7) (sext z 7)) (moved_between false (sext x 7) (sext y 7) (sext z 7)) (moved_between true (sext x 7) (sext z 7) (sext y 7))

alike : (R : Lane → Lane → Type 0) (t : Bool) {k l m n : Lane} → R k m → R l n → R (cond t k l) (cond t m n)
alike R true p q = p
alike R false p q = q

-- the byte and the zero flag are the same
pub same_byte : (x y z : ℕ) → (clip_lane x y z).byte ≡ (moved_lane x y z).byte
unfolding clip_lane clip_between moved_lane moved_between
same_byte x y z = alike (λ l m. l.byte ≡ m.byte) (lt_z (sext y 7) (sext z 7)) refl refl

pub same_zero : (x y z : ℕ) → (clip_lane x y z).zero ≡ (moved_lane x y z).zero
unfolding clip_lane clip_between moved_lane moved_between
same_zero x y z = alike (λ l m. l.zero ≡ m.zero) (lt_z (sext y 7) (sext z 7)) refl refl

or_left : {a : Bool} (b : Bool) → a ≡ true → (a || b) ≡ true
or_left b e = rw e

or_right : (a : Bool) {b : Bool} → b ≡ true → (a || b) ≡ true
or_right true e = refl
or_right false e = e

lt_le : (a b : ℤ) → lt_z a b ≡ true → le_z a b ≡ true
lt_le (pos m) (pos n) e = le-leb m n (omega (arith, ltb-true m n e))
lt_le (pos m) (negsuc n) e = e
lt_le (negsuc m) (pos n) e = refl
lt_le (negsuc m) (negsuc n) e = le-leb n m (omega (arith, ltb-true n m e))

stays : (s a b : ℤ) (t : Bool) → lt_z s a ≡ t → (t || lt_z b (cond t a s)) ≡ true → (le_z s a || le_z b s) ≡ true
stays s a b true e h = or_left (le_z b s) (lt_le s a e)
stays s a b false e h = or_right (le_z s a) (lt_le b s h)

-- a flag that was set is still set
pub still_set : (x y z : ℕ) → (moved_lane x y z).sign ≡ true → (clip_lane x y z).sign ≡ true
unfolding clip_lane clip_between moved_lane moved_between
still_set x y z =
    let s = sext x 7 in let a = sext y 7 in let b = sext z 7 in
    alike (λ l m. m.sign ≡ true → l.sign ≡ true) (lt_z a b) (stays s a b (lt_z s a) refl) (λ e. refl)

-- ---- where the two flags differ

-- of plain numbers: the ends out of order, or p outside them; p on one of them
abbrev outside : ℕ → ℕ → ℕ → Bool
outside p q r = not (ltb q r) || (ltb p q || ltb r p)

abbrev on : ℕ → ℕ → ℕ → Bool
on p q r = eqb p q || eqb p r

not_inside : (p q r : ℕ) → not (ltb q p && ltb p r) ≡ (outside p q r || on p q r)
not_inside p q r = pick (ltb q p) (ltb p r) refl refl
  where
    low_end : (t : Bool) → ltb p q ≡ t → p ≤ q → (outside p q r || on p q r) ≡ true
    low_end true e h = or_left (on p q r) (or_right (not (ltb q r)) (or_left (ltb r p) e))
    low_end false e h = or_right (outside p q r) (or_left (eqb p r) (eq-eqb p q (omega (arith, ltb-false p q e))))

    high_end : (t : Bool) → ltb r p ≡ t → r ≤ p → (outside p q r || on p q r) ≡ true
    high_end true e h = or_left (on p q r) (or_right (not (ltb q r)) (or_right (ltb p q) e))
    high_end false e h = or_right (outside p q r) (or_right (eqb p q) (eq-eqb p r (omega (arith, ltb-false r p e))))

    inside : q < p → p < r → (outside p q r || on p q r) ≡ false
    inside h k =
        rw (lt-ltb q r (omega arith), le-ltb p q (omega arith), le-ltb r p (omega arith), ne_eqb p q (λ e. omega arith), ne_eqb p r (λ e. omega arith))

    pick : (t u : Bool) → ltb q p ≡ t → ltb p r ≡ u → not (t && u) ≡ (outside p q r || on p q r)
    pick true true e f = sym (inside (ltb-true q p e) (ltb-true p r f))
    pick true false e f = sym (high_end (ltb r p) refl (ltb-false p r f))
    pick false u e f = sym (low_end (ltb p q) refl (ltb-false q p e))

same_flip : (m n : ℕ) → m < 256 → n < 256 → eqb (bit_xor m 128) (bit_xor n 128) ≡ eqb m n
same_flip m n h k = pick (eqb m n) refl
  where
    pick : (t : Bool) → eqb m n ≡ t → eqb (bit_xor m 128) (bit_xor n 128) ≡ t
    pick true e = eq-eqb (bit_xor m 128) (bit_xor n 128) (ap (λ (n : ℕ). bit_xor n 128) (eqb-true m n e))
    pick false e =
        ne_eqb (bit_xor m 128) (bit_xor n 128)
        (λ f. eqb-false m n e (sym (flip_flip m h) ∙ ap (λ (n : ℕ). bit_xor n 128) f ∙ flip_flip n k))

moved_sign : (p q r : ℕ) → (cond (ltb q r) (moved_between false (off p) (off q) (off r)) (moved_between true (off p) (off r) (off q))).sign ≡ outside p q r
unfolding moved_between
moved_sign p q r = pick (ltb q r)
  where
    first : (t : Bool) → (t || ltb r (cond t q p)) ≡ (t || ltb r p)
    first true = refl
    first false = refl

    pick : (t : Bool) → (cond t (moved_between false (off p) (off q) (off r)) (moved_between true (off p) (off r) (off q))).sign ≡ (not t || (ltb p q || ltb r p))
    pick true = simp (lt_z_off, cond_off) (first (ltb p q))
    pick false = refl

module _ (x y z : ℕ) (hx : x < 256) (hy : y < 256) (hz : z < 256) where
  -- where the flag is clear, by flipped bytes
  pub clip_flipped : (clip_lane x y z).sign ≡ not (ltb (bit_xor y 128) (bit_xor x 128) && ltb (bit_xor x 128) (bit_xor z 128))
  clip_flipped = rw (clip_clear x y z, sext_off x hx, sext_off y hy, sext_off z hz) (simp lt_z_off)

  -- the flag is set exactly where it was set before, or source 1 is one of the ends
  pub clip_on_end : (clip_lane x y z).sign ≡ ((moved_lane x y z).sign || (eqb x y || eqb x z))
  unfolding moved_lane
  clip_on_end =
      let p = bit_xor x 128 in let q = bit_xor y 128 in let r = bit_xor z 128 in
      rw (clip_flipped, sext_off x hx, sext_off y hy, sext_off z hz, lt_z_off q r, moved_sign p q r)
      (not_inside p q r ∙ rw (same_flip x y hx hy, same_flip x z hx hz))
