-- `signed::low16` meets its contract, by the law for every width.
use mathlib.Core.Path.{refl}
use Rattle.signed.proofs.Z.{low_cast}
use Rattle.signed.proofs.low16.Goals as goal

pub returns : goal.returns
returns c = simp (low_cast 15 16 refl _ c.ranges.z)
