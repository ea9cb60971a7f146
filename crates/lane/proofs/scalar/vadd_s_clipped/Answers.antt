-- `lane::scalar::vadd_s_clipped` meets its contract.
use Rattle.std.proofs.Common.{refl, arith}
use Rattle.lane.proofs.Outside.{sum_told}
use Rattle.lane.proofs.scalar.vadd_s_clipped.Goals as goal

pub returns : goal.returns
returns c = sum_told _ _ _ c.ranges.x.fits c.ranges.y.fits (omega arith) refl
