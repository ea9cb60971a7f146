-- `lane::scalar::vsub_u_clipped` meets its contract.
use Rattle.std.proofs.Common.{rules}
use Rattle.lane.proofs.Outside.{difference_flag}
use Rattle.lane.proofs.scalar.vsub_u_clipped.Goals as goal

pub returns : goal.returns
returns c = search (rules, difference_flag)
