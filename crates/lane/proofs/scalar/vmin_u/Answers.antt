-- `lane::scalar::vmin_u` meets its contract.
use Rattle.std.proofs.Common.{sym, ◌∙◌}
use Rattle.lane.proofs.Operations.{min_byte}
use Rattle.lane.proofs.scalar.vmin_u.Goals as goal

pub returns : goal.returns
returns c = c.min.ensures ∙ sym (min_byte _ _ c.ranges.x.fits c.ranges.y.fits)
