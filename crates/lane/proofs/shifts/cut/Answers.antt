-- `lane::shifts::cut` meets its contract.
use Rattle.std.proofs.Common.{refl}
use Rattle.signed.proofs.Z.{passed, mag_widen, mag_sext, zero_flag}
use Rattle.lane.specs.Lane.{shift_lane}
use Rattle.lane.proofs.shifts.cut.Goals as goal

pub shifted-r-requires : goal.shifted-r-requires
shifted-r-requires c =
    let a = c.widen-s in let b = c.sext-n in
    simp (passed a.type_inv a.ensures, passed b.type_inv b.ensures) (mag_widen _ _ c.ranges.x.fits, mag_sext _ 3)

pub returns : goal.returns
unfolding shift_lane
returns c =
    let r = c.shifted-r in let b = c.sext-n in let a = c.widen-s in
    simp (c.either-whole.ensures, c.low8-byte.ensures, zero_flag r.result r.type_inv, passed r.type_inv r.ensures)
    (simp (r.ensures, passed a.type_inv a.ensures, passed b.type_inv b.ensures) refl)
