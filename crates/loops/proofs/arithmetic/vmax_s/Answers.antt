-- `loops::arithmetic::vmax_s` meets its contract.
use Rattle.std.proofs.Common.{rules}
use Rattle.lane.specs.declared.Calc.TheVariants.{Max}
use Rattle.lane.specs.Lane.{arith_lane}
use Rattle.loops.proofs.arithmetic.vmax_s.Goals as goal

pub returns : goal.returns
unfolding arith_lane
returns c = c.signed.ensures Max (λ x y r u v p. search rules) (λ x y r u v p. search rules)
