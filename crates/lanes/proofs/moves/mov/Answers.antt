-- `lanes::moves::mov` meets its contract.
use mathlib.Core.Path.{refl}
use Rattle.lane.specs.Lane.{mov_lane}
use Rattle.lanes.specs.Inner.Unpacked.{mov_unpacked}
use Rattle.lanes.proofs.Listed.{elements}
use Rattle.lanes.proofs.Unpacking.{quiet}
use Rattle.lanes.proofs.moves.mov.Goals as goal

pub returns : goal.returns
unfolding mov_unpacked mov_lane
returns c = let e = elements c.args.a c.well_formed.0.1.0.1 in quiet _ e e (λ i. refl) (λ i. refl)
