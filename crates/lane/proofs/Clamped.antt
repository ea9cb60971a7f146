-- A component kept between bounds, by flipped bytes: the byte as the code finds it, the zero flag from that byte, and the sign flag.
use Rattle.std.proofs.Common.{◌≡◌, ℕ, ◌<◌, min, Bool, true, false, cond, not, ◌&&◌, eqb, ltb, ℤ, refl, arith, ltb-false, ltb-true}
use lib.Bits.{bit_xor}
use lib.Signed.{mag, lt_z}
use Rattle.signed.specs.Signed.{sext}
use Rattle.signed.proofs.Z.{mag_sext}
use Rattle.lane.specs.Lane.{Lane, clip_between, clip_lane}
use Rattle.lane.proofs.Saturated.{zero_small}
use Rattle.lane.proofs.Edges.{clip_flipped}
use Rattle.lane.proofs.Biased.{off, flip_lt, sext_off, low_off, lt_z_off, cond_off}

one_of : {A : Type 0} (P : A → Type 0) (t : Bool) {a b : A} → P a → P b → P (cond t a b)
one_of P true h k = h
one_of P false h k = k

pub least : (a b : ℕ) → cond (ltb a b) a b ≡ min a b
least a b = pick (ltb a b) refl
  where
    pick : (t : Bool) → ltb a b ≡ t → cond t a b ≡ min a b
    pick true e = let h = ltb-true a b e in omega arith
    pick false e = let h = ltb-false a b e in omega arith

-- the byte is 0 where the number is
between_zero : (sf : Bool) (s lo hi : ℤ) → mag s < 128 → mag lo < 128 → mag hi < 128
    → (clip_between sf s lo hi).zero ≡ eqb (clip_between sf s lo hi).byte 0
unfolding clip_between
between_zero sf s lo hi h k l =
    let res = cond (lt_z s lo) lo s in let small : ℤ → Type 0 = λ v. mag v < 128 in
    zero_small (cond (lt_z hi res) hi res) (one_of small (lt_z hi res) l (one_of small (lt_z s lo) k h))

pub clip_zero : (x y z : ℕ) → (clip_lane x y z).zero ≡ eqb (clip_lane x y z).byte 0
unfolding clip_lane
clip_zero x y z =
    let s = sext x 7 in let a = sext y 7 in let b = sext z 7 in
    one_of (λ (l : Lane). l.zero ≡ eqb l.byte 0) (lt_z a b)
    (between_zero false s a b (mag_sext x 7) (mag_sext y 7) (mag_sext z 7))
    (between_zero true s b a (mag_sext x 7) (mag_sext z 7) (mag_sext y 7))

-- a component of vclip is never told
pub clip_untold : (x y z : ℕ) → (clip_lane x y z).clipped ≡ false
unfolding clip_lane clip_between
clip_untold x y z = one_of (λ (l : Lane). l.clipped ≡ false) (lt_z (sext y 7) (sext z 7)) refl refl

-- p between lo and hi, as the code has it
abbrev pub inside : ℕ → ℕ → ℕ → ℕ
inside p lo hi = let t = cond (ltb p lo) lo p in cond (ltb hi t) hi t

inside_lt : (p lo hi : ℕ) → p < 256 → lo < 256 → hi < 256 → inside p lo hi < 256
inside_lt p lo hi h k l =
    let t = cond (ltb p lo) lo p in let byte : ℕ → Type 0 = λ n. n < 256 in one_of byte (ltb hi t) l (one_of byte (ltb p lo) k h)

between_byte : (sf : Bool) (p lo hi : ℕ) → p < 256 → lo < 256 → hi < 256
    → (clip_between sf (off p) (off lo) (off hi)).byte ≡ bit_xor (inside p lo hi) 128
unfolding clip_between
between_byte sf p lo hi h k l = simp (lt_z_off, cond_off) (low_off (inside p lo hi) (inside_lt p lo hi h k l))

module _ (x y z : ℕ) (hx : x < 256) (hy : y < 256) (hz : z < 256) where
  abbrev p : ℕ
  p = bit_xor x 128

  abbrev q : ℕ
  q = bit_xor y 128

  abbrev r : ℕ
  r = bit_xor z 128

  lane : clip_lane x y z ≡ cond (ltb q r) (clip_between false (off p) (off q) (off r)) (clip_between true (off p) (off r) (off q))
  unfolding clip_lane
  lane = rw (sext_off x hx, sext_off y hy, sext_off z hz, lt_z_off q r)

  -- the bounds in order
  abbrev lo : Bool → ℕ
  lo t = cond t q r

  abbrev hi : Bool → ℕ
  hi t = cond t r q

  pub clip_byte : (clip_lane x y z).byte ≡ bit_xor (inside p (lo (ltb q r)) (hi (ltb q r))) 128
  clip_byte = rw lane (pick (ltb q r))
    where
      pick : (t : Bool) → (cond t (clip_between false (off p) (off q) (off r)) (clip_between true (off p) (off r) (off q))).byte ≡ bit_xor (inside p (lo t) (hi t)) 128
      pick true = between_byte false p q r (flip_lt hx) (flip_lt hy) (flip_lt hz)
      pick false = between_byte true p r q (flip_lt hx) (flip_lt hz) (flip_lt hy)

  pub clip_sign : ◌≡◌ {A = ℕ} (cond (ltb q p && ltb p r) 0 255) (cond (clip_lane x y z).sign 255 0)
  clip_sign = rw (clip_flipped x y z hx hy hz) (pick (ltb q p && ltb p r))
    where
      pick : (t : Bool) → ◌≡◌ {A = ℕ} (cond t 0 255) (cond (not t) 255 0)
      pick true = refl
      pick false = refl
