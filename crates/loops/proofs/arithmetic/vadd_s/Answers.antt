-- `loops::arithmetic::vadd_s` meets its contract.
use Rattle.std.proofs.Common.{rules}
use Rattle.lane.specs.declared.Calc.TheVariants.{Add}
use Rattle.loops.proofs.arithmetic.vadd_s.Goals as goal

pub returns : goal.returns
returns c = c.signed.ensures Add (λ x y r u v p. search rules) (λ x y r u v p. search rules)
