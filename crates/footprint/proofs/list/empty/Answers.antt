-- `footprint::list::empty` meets its contract.
use Rattle.footprint.proofs.Grown.{none}
use Rattle.footprint.proofs.list.empty.Goals as goal

pub returns : goal.returns
returns c = none
