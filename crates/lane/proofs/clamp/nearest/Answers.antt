-- `lane::clamp::nearest` meets its contract, by flipped bytes.
use Rattle.std.proofs.Common.{sym}
use Rattle.lane.proofs.Clamped.{clip_byte}
use Rattle.lane.proofs.clamp.nearest.Goals as goal

pub returns : goal.returns
returns c =
    let f = c.ranges in
    simp (c.either.ensures, c.either-t.ensures, c.either-hi.ensures, c.either-lo.ensures) (sym (clip_byte _ _ _ f.x.fits f.y.fits f.z.fits))
