-- `signed::low8` meets its contract, by the law for every width.
use mathlib.Core.Path.{refl}
use Rattle.signed.proofs.Z.{low_cast}
use Rattle.signed.proofs.low8.Goals as goal

pub returns : goal.returns
returns c = simp (low_cast 23 8 refl _ c.ranges.z)
