-- `loops::arithmetic::vmax_u` meets its contract: a move.
use Rattle.std.proofs.Common.{rules, false, ◌∙◌}
use Rattle.lane.specs.declared.Calc.TheVariants.{Max}
use Rattle.lane.specs.Lane.{arith_lane}
use Rattle.lane.proofs.Operations.{max_unsigned}
use Rattle.loops.proofs.Unclipped.{unclipped}
use Rattle.loops.proofs.arithmetic.vmax_u.Goals as goal

pub returns : goal.returns
returns c =
    c.mov.ensures
    ∙ unclipped Max c.args.a c.args.b _ (λ i. max_unsigned _ _ (search rules) (search rules)) (c.each.ensures (λ x y. (arith_lane Max false x y).byte) (λ x y r u v p. search rules))
