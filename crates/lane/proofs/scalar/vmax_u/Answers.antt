-- `lane::scalar::vmax_u` meets its contract.
use Rattle.std.proofs.Common.{sym, ◌∙◌}
use Rattle.lane.proofs.Operations.{max_byte}
use Rattle.lane.proofs.scalar.vmax_u.Goals as goal

pub returns : goal.returns
returns c = c.max.ensures ∙ sym (max_byte _ _ c.ranges.x.fits c.ranges.y.fits)
