-- `lane::nine::sum` meets its contract.
use Rattle.std.proofs.Common.{pos, refl, arith, to_z-of_z}
use Rattle.signed.specs.Signed.{sext}
use Rattle.signed.proofs.Z.{passed, byte_z, mag_sext, add_fits}
use Rattle.lane.specs.Lane.{add9_lane, saturated, outside}
use Rattle.lane.proofs.nine.sum.Goals as goal

pub overflow_add-t : goal.overflow_add-t
overflow_add-t c =
    let w = c.sext in
    simp (passed w.type_inv w.ensures, byte_z c.args.x (omega (arith, c.ranges.x.fits)))
    (add_fits (pos c.args.x) (sext c.args.w 8) c.ranges.x.fits (mag_sext c.args.w 8))

pub returns : goal.returns
unfolding add9_lane saturated outside
returns c =
    let v = c.clip-v in let w = c.sext in
    let fits = to_z-of_z (add_fits (pos c.args.x) (sext c.args.w 8) c.ranges.x.fits (mag_sext c.args.w 8)) in
    simp
    (c.either-top.ensures, c.low8-byte.ensures, passed v.type_inv v.ensures, passed w.type_inv w.ensures, byte_z c.args.x (omega (arith, c.ranges.x.fits)))
    (rw fits refl)
