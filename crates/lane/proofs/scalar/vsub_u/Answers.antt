-- `lane::scalar::vsub_u` meets its contract.
use Rattle.std.proofs.Common.{sym, ◌∙◌}
use Rattle.lane.proofs.Operations.{sub_byte}
use Rattle.lane.proofs.scalar.vsub_u.Goals as goal

pub returns : goal.returns
returns c = c.saturating_sub.ensures ∙ sym (sub_byte _ _ c.ranges.x.fits c.ranges.y.fits)
