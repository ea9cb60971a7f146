-- `footprint::list::none` meets its contract.
use Rattle.footprint.proofs.Grown.{none, ends}
use Rattle.footprint.proofs.list.none.Goals as goal

pub returns : goal.returns
returns c = ends c.empty-list.ensures none
