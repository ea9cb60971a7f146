-- `lane::scalar::vadd_u` meets its contract.
use Rattle.std.proofs.Common.{sym, ◌∙◌}
use Rattle.lane.proofs.Operations.{add_byte}
use Rattle.lane.proofs.scalar.vadd_u.Goals as goal

pub returns : goal.returns
returns c = c.saturating_add.ensures ∙ sym (add_byte _ _ c.ranges.x.fits c.ranges.y.fits)
