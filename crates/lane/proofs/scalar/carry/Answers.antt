-- `lane::scalar::carry` meets its contract.
use Rattle.std.proofs.Common.{refl, arith}
use Rattle.lane.proofs.Outside.{carry_is}
use Rattle.lane.proofs.scalar.carry.Goals as goal

pub returns : goal.returns
returns c = carry_is _ _ _ c.ranges.x.fits c.ranges.y.fits (omega arith) refl
