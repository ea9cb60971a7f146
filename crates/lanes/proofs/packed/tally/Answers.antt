-- `lanes::packed::tally` meets its contract: the ones of a mask of sixteen tests.
use Rattle.lanes.proofs.Counting.{odd_mask}
use Rattle.lanes.proofs.packed.tally.Goals as goal

pub returns : goal.returns
returns c = odd_mask c.args.t c.well_formed.0.1.0.1
