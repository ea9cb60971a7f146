-- `lane::scalar::vmax_s` meets its contract.
use Rattle.lane.proofs.Operations.{max_signed}
use Rattle.lane.proofs.scalar.vmax_s.Goals as goal

pub returns : goal.returns
returns c = let a = c.cast_signed in let b = c.cast_signed-2 in max_signed _ _ c.ranges.x.fits c.ranges.y.fits a.ensures b.ensures c.max.ensures.value c.cast_unsigned.ensures
