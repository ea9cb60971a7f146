-- `footprint::list::put_increment` meets its contract.
use Rattle.footprint.proofs.Grown.{none}
use Rattle.footprint.proofs.list.put_increment.Goals as goal

pub returns-in-Immediate : goal.returns-in-Immediate
returns-in-Immediate c = rw c.in-Immediate.is none
