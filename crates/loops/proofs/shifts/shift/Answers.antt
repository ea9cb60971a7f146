-- `loops::shifts::shift` meets its contract.
use Rattle.std.proofs.Common.{rules, cond, refl}
use Rattle.lane.specs.Lane.{shift_lane}
use Rattle.lanes.specs.Inner.Unpacked.{shift_unpacked}
use Rattle.lanes.proofs.Unpacking.{untold}
use Rattle.loops.proofs.shifts.shift.Goals as goal

pub returns : goal.returns
unfolding shift_unpacked shift_lane
returns g c s k =
    let e = c.each-bytes.ensures (λ x y. (shift_lane s x y).byte) (λ x y r u v p. search (rules, k)) in
    untold _ e (c.each-tested.ensures (λ x y. cond (shift_lane s x y).zero 0 1) (λ x y r u v p. search (rules, k))) e (λ i. refl)
