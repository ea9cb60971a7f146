-- `footprint::address::put_moved` meets its contract.
use Rattle.footprint.proofs.Grown.{both}
use Rattle.footprint.proofs.address.put_moved.Goals as goal

pub returns : goal.returns
returns c = both c.put_half-moved.ensures c.put_flag.ensures
