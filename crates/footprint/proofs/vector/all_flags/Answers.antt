-- `footprint::vector::all_flags` meets its contract: the four pairs, one after the other.
use Rattle.footprint.proofs.Grown.{both}
use Rattle.footprint.proofs.vector.all_flags.Goals as goal

pub returns : goal.returns
returns c = both (both (both (both c.empty.ensures c.put_flags.ensures) c.put_flags-two.ensures) c.put_flags-2.ensures) c.put_flags-3.ensures
