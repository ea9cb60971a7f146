-- `loops::arithmetic::vmin_u` meets its contract: a move.
use Rattle.std.proofs.Common.{rules, false, ◌∙◌}
use Rattle.lane.specs.declared.Calc.TheVariants.{Min}
use Rattle.lane.specs.Lane.{arith_lane}
use Rattle.lane.proofs.Operations.{min_unsigned}
use Rattle.loops.proofs.Unclipped.{unclipped}
use Rattle.loops.proofs.arithmetic.vmin_u.Goals as goal

pub returns : goal.returns
returns c =
    c.mov.ensures
    ∙ unclipped Min c.args.a c.args.b _ (λ i. min_unsigned _ _ (search rules) (search rules)) (c.each.ensures (λ x y. (arith_lane Min false x y).byte) (λ x y r u v p. search rules))
