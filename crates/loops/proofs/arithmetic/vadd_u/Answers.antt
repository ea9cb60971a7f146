-- `loops::arithmetic::vadd_u` meets its contract.
use Rattle.std.proofs.Common.{rules, refl}
use Rattle.lane.specs.declared.Calc.TheVariants.{Add}
use Rattle.loops.proofs.arithmetic.vadd_u.Goals as goal

pub returns : goal.returns
returns c = c.unsigned.ensures Add refl (λ x y r u v p. search rules) (λ x y r u v p. search rules)
