-- `loops::arithmetic::vabs_s` meets its contract.
use Rattle.std.proofs.Common.{rules}
use Rattle.lane.specs.declared.Calc.TheVariants.{Abs}
use Rattle.lane.specs.Lane.{arith_lane, result}
use Rattle.lane.proofs.Outside.{magnitude_told}
use Rattle.loops.proofs.arithmetic.vabs_s.Goals as goal

pub returns : goal.returns
unfolding arith_lane result
returns c = c.signed.ensures Abs (λ x y r u v p. search rules) (λ x y r u v p. rw (magnitude_told x u) (search rules))
