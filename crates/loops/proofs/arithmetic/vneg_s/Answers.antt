-- `loops::arithmetic::vneg_s` meets its contract.
use Rattle.std.proofs.Common.{rules}
use Rattle.lane.specs.declared.Calc.TheVariants.{Neg}
use Rattle.lane.specs.Lane.{arith_lane, result}
use Rattle.lane.proofs.Outside.{negation_told}
use Rattle.loops.proofs.arithmetic.vneg_s.Goals as goal

pub returns : goal.returns
unfolding arith_lane result
returns c = c.signed.ensures Neg (λ x y r u v p. search rules) (λ x y r u v p. rw (negation_told x u) (search rules))
