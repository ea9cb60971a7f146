-- `footprint::list::put_datum` meets its contract.
use mathlib.Core.Path.{refl}
use Rattle.footprint.proofs.Grown.{one}
use Rattle.footprint.proofs.list.put_datum.Goals as goal

pub returns-in-Scalar : goal.returns-in-Scalar
returns-in-Scalar c = rw c.in-Scalar.is (one _ _ c.push.ensures refl)
