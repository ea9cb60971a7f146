-- `footprint::list::put_vector` meets its contract.
use mathlib.Core.Path.{refl}
use Rattle.footprint.proofs.Grown.{one}
use Rattle.footprint.proofs.list.put_vector.Goals as goal

pub returns : goal.returns
returns c = one _ _ c.push.ensures refl
