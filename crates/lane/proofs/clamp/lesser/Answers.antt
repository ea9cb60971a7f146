-- `lane::clamp::lesser` meets its contract.
use Rattle.std.proofs.Common.{arith}
use Rattle.lane.specs.Lane.{min_abs_lane}
use Rattle.lane.proofs.clamp.lesser.Goals as goal

pub returns : goal.returns
unfolding min_abs_lane
returns c = rw (c.min-2.ensures, c.min.ensures, c.size.ensures, c.size-2.ensures) (omega arith)
