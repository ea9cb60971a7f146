-- `footprint::address::moving` meets its contract.
use Rattle.footprint.proofs.Grown.{both}
use Rattle.footprint.proofs.address.moving.Goals as goal

pub returns : goal.returns
returns c = both (both c.empty.ensures c.put_halves.ensures) c.put_increment.ensures
