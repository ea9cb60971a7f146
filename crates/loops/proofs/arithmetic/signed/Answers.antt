-- `loops::arithmetic::signed` meets its contract.
use Rattle.std.proofs.Common.{true, get_or, refl, ◌∙◌}
use Rattle.lane.specs.Lane.{arith_lane}
use Rattle.lanes.specs.Inner.Unpacked.{both_in, arith_unpacked}
use Rattle.lanes.proofs.Counting.{tallied}
use Rattle.lanes.proofs.Unpacking.{made}
use Rattle.loops.proofs.arithmetic.signed.Goals as goal

pub returns : goal.returns
unfolding arith_unpacked
returns g c op f k =
    let e = c.each-bytes.ensures (λ x y. (arith_lane op true x y).byte) f in
    made (λ i. both_in (arith_lane op true (get_or c.args.a i 0) (get_or c.args.b i 0))) e e e (c.tally.ensures ∙ tallied 1 refl _ (c.each.ensures _ k))
