-- Document 01's examples 6 to 9 and document 02's of wish 1, computed.
use Rattle.std.proofs.Common.{◌≡◌, true, false, refl}
use Rattle.signed.specs.Signed.{sext, widen, low, clip, shifted}
use Rattle.lane.specs.declared.Calc.TheVariants.{Add, Neg, Sub}
use Rattle.lane.specs.Lane.{outside, saturated, result, arith_lane, shift_lane, clip_between, clip_lane, add9_lane}

vadd_signed : arith_lane Add true 0x64 0x64 ≡ record { byte = 0x7f; sign = false; zero = false; clipped = true }
unfolding arith_lane saturated outside result widen sext low clip
vadd_signed = refl

vneg : arith_lane Neg true 0x80 0 ≡ record { byte = 0x7f; sign = false; zero = false; clipped = true }
unfolding arith_lane saturated outside result widen sext low clip
vneg = refl

vsub_unsigned : arith_lane Sub false 0 1 ≡ record { byte = 0; sign = true; zero = true; clipped = true }
unfolding arith_lane saturated outside result widen sext low clip
vsub_unsigned = refl

vshr : shift_lane false 0x80 0x0f ≡ record { byte = 0; sign = false; zero = false; clipped = false }
unfolding shift_lane shifted widen sext low
vshr = refl

vsar : shift_lane true 0x80 7 ≡ record { byte = 0xff; sign = true; zero = false; clipped = false }
unfolding shift_lane shifted widen sext low
vsar = refl

vadd9 : add9_lane 0x10 0x1f0 ≡ record { byte = 0; sign = false; zero = true; clipped = false }
unfolding add9_lane saturated outside sext low clip
vadd9 = refl

vclip_on_start : clip_lane 5 5 9 ≡ record { byte = 5; sign = true; zero = false; clipped = false }
unfolding clip_lane clip_between sext low
vclip_on_start = refl
