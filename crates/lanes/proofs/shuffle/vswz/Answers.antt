-- `lanes::shuffle::vswz` meets its contract: both sources are picked from, and one pick is taken.
use Rattle.lanes.proofs.Picked.{picks, all_picked}
use Rattle.lanes.proofs.shuffle.vswz.Goals as goal

pub swizzle-from_b : goal.swizzle-from_b
swizzle-from_b c = picks c.args.hi c.args.sel c.well_formed.1.1.1.0.1.0.1 c.named.ensures.0

pub swizzle-from_a : goal.swizzle-from_a
swizzle-from_a c = picks c.args.hi c.args.sel c.well_formed.1.1.1.0.1.0.1 c.named.ensures.0

pub returns : goal.returns
returns c = all_picked c.args.hi c.args.sel c.well_formed.1.1.1.0.1.0.1 c.named.ensures.0 c.args.a c.args.b c.named.ensures.1
