-- `lane::scalar::vsub_s_clipped` meets its contract.
use Rattle.std.proofs.Common.{arith}
use Rattle.lane.proofs.Outside.{difference_told}
use Rattle.lane.proofs.scalar.vsub_s_clipped.Goals as goal

pub returns : goal.returns
returns c = difference_told _ _ _ c.ranges.x.fits c.ranges.y.fits (omega arith) (omega (arith, c.ranges.x.fits, c.ranges.y.fits))
