-- `footprint::list::put_half` meets its contract.
use native.Mathlib.Omega.{arith}
use Rattle.footprint.proofs.Grown.{one}
use Rattle.footprint.proofs.list.put_half.Goals as goal

pub returns : goal.returns
returns c = one _ _ c.push.ensures (omega (arith, c.side.ensures))
