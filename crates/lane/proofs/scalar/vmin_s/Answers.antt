-- `lane::scalar::vmin_s` meets its contract.
use Rattle.lane.proofs.Operations.{min_signed}
use Rattle.lane.proofs.scalar.vmin_s.Goals as goal

pub returns : goal.returns
returns c = let a = c.cast_signed in let b = c.cast_signed-2 in min_signed _ _ c.ranges.x.fits c.ranges.y.fits a.ensures b.ensures c.min.ensures.value c.cast_unsigned.ensures
