-- Which components are told as clipped: of vadd, vsub, vneg, vabs and vadd9 those whose stored byte, read back, is not the true result.
use Rattle.std.proofs.Common.{◌≡◌, ℕ, ◌+◌, ◌-◌, ◌%◌, ◌^◌, ◌<◌, Bool, true, false, cond, ◌||◌, T, ltb, ◌↔◌, ℤ, pos, negsuc, ◌+ℤ◌, sym, refl, subst, arith, ltb-false, ltb-true, le-ltb, lt-ltb}
use mathlib.Core.Bool.{false≢true}
use lib.Signed.{mag, lt_z, lt_z_yes, <ℤ_irrefl}
use Rattle.signed.specs.Signed.{sext, widen, low, clip}
use Rattle.lane.specs.declared.Calc.{Calc}
use Rattle.lane.specs.declared.Calc.TheVariants.{Min, Max}
use Rattle.lane.specs.declared.Logic.{Logic}
use Rattle.lane.specs.Lane.{Lane, first, last, outside, saturated, result, tells, told, arith_lane, add9_lane}
use Rattle.lane.specs.Lane.{shift_lane, clip_lane, min_abs_lane, bitop_lane, logic_lane, mov_lane, mov_imm_lane, cmpad_lane}
use Rattle.lane.proofs.Biased.{sext_low, sext_high}
use Rattle.lane.proofs.Clamped.{clip_untold}
use Rattle.lane.proofs.Saturated.{into, into_small, within, above, below}

-- a value on an end of the clip range is not outside it, and the next one is
pub at_the_ends : (outside true (pos 127) ≡ false) × (outside true (pos 128) ≡ true) × (outside true (negsuc 127) ≡ false) × (outside true (negsuc 128) ≡ true)
    × (outside false (pos 255) ≡ false) × (outside false (pos 256) ≡ true) × (outside false (pos 0) ≡ false) × (outside false (negsuc 0) ≡ true)
unfolding outside
at_the_ends = (refl, refl, refl, refl, refl, refl, refl, refl)

-- ---- the stored byte, read back, is the clipped result

small_back : (v : ℤ) → mag v < 128 → sext (low 8 v) 7 ≡ v
unfolding low
small_back (pos n) h = let e : n % 2 ^ 8 ≡ n = omega arith in rw e (sext_low n h)
small_back (negsuc n) h =
    let e : 2 ^ 8 - 1 - n % 2 ^ 8 ≡ (127 - n) + 128 = omega arith in
    let f : 127 - (127 - n) ≡ n = omega arith in rw (e, sext_high (127 - n) (omega arith), f)

signed_back : (z : ℤ) → sext (saturated true z).byte 7 ≡ clip (negsuc 0x7f) (pos 0x7f) z
unfolding saturated into
signed_back z = small_back (into z) (into_small z)

unsigned_back : (z : ℤ) → pos (saturated false z).byte ≡ clip (pos 0) (pos 0xff) z
unfolding clip
unsigned_back (negsuc n) = rw (below n 0)
unsigned_back (pos n) = pick (ltb n 256) refl
  where
    pick : (t : Bool) → ltb n 256 ≡ t → pos (saturated false (pos n)).byte ≡ clip (pos 0) (pos 0xff) (pos n)
    pick true e = let h = ltb-true n 256 e in rw (within n h, le-ltb n 0 (omega arith), le-ltb 0xff n (omega arith))
    pick false e = let h = ltb-false n 256 e in rw (above n h, le-ltb n 0 (omega arith), lt-ltb 0xff n (omega arith))

stored : (signed : Bool) (z : ℤ) → widen signed (saturated signed z).byte ≡ clip (first signed) (last signed) z
unfolding widen
stored true z = signed_back z
stored false z = unsigned_back z

-- ---- clipping moves what lies outside

kept : (lo hi z : ℤ) → (lt_z z lo || lt_z hi z) ≡ false → clip lo hi z ≡ z
unfolding clip
kept lo hi z = pick (lt_z z lo) (lt_z hi z)
  where
    pick : (s t : Bool) → (s || t) ≡ false → cond s lo (cond t hi z) ≡ z
    pick true t e = absurd (false≢true (sym e))
    pick false true e = absurd (false≢true (sym e))
    pick false false e = refl

not_below_itself : (z : ℤ) → lt_z z z ≡ true → ⊥
not_below_itself z e = <ℤ_irrefl {a = z} (lt_z_yes (subst T (sym e) tt))

moved : (lo hi z : ℤ) → (lt_z z lo || lt_z hi z) ≡ true → clip lo hi z ≡ z → ⊥
unfolding clip
moved lo hi z = pick (lt_z z lo) (lt_z hi z) refl refl
  where
    pick : (s t : Bool) → lt_z z lo ≡ s → lt_z hi z ≡ t → (s || t) ≡ true → cond s lo (cond t hi z) ≡ z → ⊥
    pick true t p q e f = not_below_itself z (rw f at p)
    pick false true p q e f = not_below_itself z (rw f at q)
    pick false false p q e f = false≢true e

-- a saturated result is told exactly where its byte, read back, is another number
pub saturated_back : (signed : Bool) (z : ℤ) → ((saturated signed z).clipped ≡ true) ↔ (widen signed (saturated signed z).byte ≡ z → ⊥)
unfolding saturated outside
saturated_back signed z =
    rw (stored signed z) (moved (first signed) (last signed) z, pick (lt_z z (first signed) || lt_z (last signed) z) refl)
  where
    pick : (t : Bool) → (lt_z z (first signed) || lt_z (last signed) z) ≡ t → (clip (first signed) (last signed) z ≡ z → ⊥) → t ≡ true
    pick true e f = refl
    pick false e f = absurd (f (kept (first signed) (last signed) z e))

-- ---- the components

-- an instruction that tells keeps the saturated result's answer
telling : (op : Calc) → tells op ≡ true → (signed : Bool) (x y : ℕ)
    → arith_lane op signed x y ≡ saturated signed (result op (widen signed x) (widen signed y))
unfolding arith_lane
telling op e signed x y = pick (tells op) e (saturated signed (result op (widen signed x) (widen signed y)))
  where
    pick : (t : Bool) → t ≡ true → (l : Lane) → told t l ≡ l
    pick true e l = refl
    pick false e l = absurd (false≢true e)

-- a component of vadd, vsub, vneg and vabs is told exactly where its stored byte, read back, is not the true result
pub read_back : (op : Calc) → tells op ≡ true → (signed : Bool) (x y : ℕ)
    → ((arith_lane op signed x y).clipped ≡ true) ↔ (widen signed (arith_lane op signed x y).byte ≡ result op (widen signed x) (widen signed y) → ⊥)
read_back op e signed x y = rw (telling op e signed x y) (saturated_back signed (result op (widen signed x) (widen signed y)))

-- the same of vadd9
pub read_back_nine : (x w : ℕ) → ((add9_lane x w).clipped ≡ true) ↔ (pos (add9_lane x w).byte ≡ pos x +ℤ sext w 8 → ⊥)
unfolding add9_lane widen
read_back_nine x w = saturated_back false (pos x +ℤ sext w 8)

-- an unsigned component is told exactly where its sign flag is set
pub unsigned_told : (op : Calc) → tells op ≡ true → (x y : ℕ) → (arith_lane op false x y).clipped ≡ (arith_lane op false x y).sign
unfolding saturated
unsigned_told op e x y = rw (telling op e false x y)

-- the same of vadd9
pub unsigned_told_nine : (x w : ℕ) → (add9_lane x w).clipped ≡ (add9_lane x w).sign
unfolding add9_lane saturated
unsigned_told_nine x w = refl

-- no component of another instruction is told: vmin, vmax, vshr and vsar, vclip, vminabs, vbitop, vand and the like, mov, vmov, vcmpad
pub untold : (signed : Bool) (how : Logic) (op input other x y z : ℕ)
    → ((arith_lane Min signed x y).clipped ≡ false) × ((arith_lane Max signed x y).clipped ≡ false) × ((shift_lane signed x y).clipped ≡ false)
    × ((clip_lane x y z).clipped ≡ false) × ((min_abs_lane x y).clipped ≡ false) × ((bitop_lane op x y).clipped ≡ false)
    × ((logic_lane how x y).clipped ≡ false) × ((mov_lane x).clipped ≡ false) × ((mov_imm_lane x).clipped ≡ false)
    × ((cmpad_lane op input x other y).clipped ≡ false)
unfolding arith_lane shift_lane min_abs_lane bitop_lane logic_lane mov_lane mov_imm_lane cmpad_lane
untold signed how op input other x y z = (refl, refl, refl, clip_untold x y z, refl, refl, refl, refl, refl, refl)
