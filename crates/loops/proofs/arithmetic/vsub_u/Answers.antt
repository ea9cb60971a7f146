-- `loops::arithmetic::vsub_u` meets its contract.
use Rattle.std.proofs.Common.{rules, refl}
use Rattle.lane.specs.declared.Calc.TheVariants.{Sub}
use Rattle.loops.proofs.arithmetic.vsub_u.Goals as goal

pub returns : goal.returns
returns c = c.unsigned.ensures Sub refl (λ x y r u v p. search rules) (λ x y r u v p. search rules)
