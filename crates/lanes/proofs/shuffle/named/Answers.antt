-- `lanes::shuffle::named` meets its contract: the halves of the selectors, cut.
use Rattle.lanes.proofs.Picked.{low, high}
use Rattle.lanes.proofs.shuffle.named.Goals as goal

pub returns-then-hi : goal.returns-then-hi
returns-then-hi c = rw c.if-hi.true (high 4 c.args.sel c.fits-sel.0, low 1 c.args.sel c.fits-sel.0)

pub returns-else-hi : goal.returns-else-hi
returns-else-hi c = rw c.if-hi.false (low 4 c.args.sel c.fits-sel.0, high 1 c.args.sel c.fits-sel.0)
