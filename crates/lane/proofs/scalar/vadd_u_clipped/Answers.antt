-- `lane::scalar::vadd_u_clipped` meets its contract.
use Rattle.std.proofs.Common.{rules}
use Rattle.lane.proofs.Outside.{sum_flag}
use Rattle.lane.proofs.scalar.vadd_u_clipped.Goals as goal

pub returns : goal.returns
returns c = search (rules, sum_flag)
