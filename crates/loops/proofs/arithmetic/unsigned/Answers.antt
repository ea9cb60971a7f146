-- `loops::arithmetic::unsigned` meets its contract: of an operation that tells, the sign flag is what is told.
use Rattle.std.proofs.Common.{false, cond, get_or}
use Rattle.lane.specs.Lane.{arith_lane, saturated}
use Rattle.lanes.specs.Inner.Unpacked.{arith_unpacked}
use Rattle.loops.proofs.Beside.{told_beside}
use Rattle.loops.proofs.arithmetic.unsigned.Goals as goal

pub returns : goal.returns
unfolding arith_unpacked arith_lane saturated
returns g c op t f k =
    told_beside (λ i. arith_lane op false (get_or c.args.a i 0) (get_or c.args.b i 0)) (λ i. rw t)
    (c.each-bytes.ensures (λ x y. (arith_lane op false x y).byte) f) (c.each-tops.ensures (λ x y. cond (arith_lane op false x y).sign 255 0) k) c.tally.ensures
