-- `loops::arithmetic::vsub_s` meets its contract.
use Rattle.std.proofs.Common.{rules}
use Rattle.lane.specs.declared.Calc.TheVariants.{Sub}
use Rattle.loops.proofs.arithmetic.vsub_s.Goals as goal

pub returns : goal.returns
returns c = c.signed.ensures Sub (λ x y r u v p. search rules) (λ x y r u v p. search rules)
