-- `footprint::list::put_halves` meets its contract.
use Rattle.footprint.proofs.Grown.{both}
use Rattle.footprint.proofs.list.put_halves.Goals as goal

pub returns : goal.returns
returns c = both c.put_half.ensures c.put_half-2.ensures
