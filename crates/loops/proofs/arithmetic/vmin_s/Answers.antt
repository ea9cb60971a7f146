-- `loops::arithmetic::vmin_s` meets its contract.
use Rattle.std.proofs.Common.{rules}
use Rattle.lane.specs.declared.Calc.TheVariants.{Min}
use Rattle.lane.specs.Lane.{arith_lane}
use Rattle.loops.proofs.arithmetic.vmin_s.Goals as goal

pub returns : goal.returns
unfolding arith_lane
returns c = c.signed.ensures Min (λ x y r u v p. search rules) (λ x y r u v p. search rules)
