-- `loops::arithmetic::vabs_u` meets its contract: a move, and the bytes are as they were.
use Rattle.std.proofs.Common.{rules, ◌≡◌, ℕ, false, get_or, replicate, sym, ap, ◌∙◌}
use Rattle.lane.specs.declared.Calc.TheVariants.{Abs}
use Rattle.lane.specs.Lane.{Lane, arith_lane}
use Rattle.lane.proofs.Saturated.{moved}
use Rattle.lane.proofs.Operations.{abs_unsigned}
use Rattle.lanes.proofs.Listed.{listed_is}
use Rattle.loops.proofs.Unclipped.{unclipped}
use Rattle.loops.proofs.arithmetic.vabs_u.Goals as goal

pub returns : goal.returns
returns c =
    let a = c.args.a in
    let law : (i : ℕ) → arith_lane Abs false (get_or a i 0) (get_or (replicate 16 0) i 0) ≡ moved false 0 (get_or a i 0)
    = λ i. abs_unsigned _ _ (search rules) in
    c.mov.ensures ∙ unclipped Abs _ _ _ law (listed_is _ a (search rules) (λ i h. sym (ap (λ (l : Lane). l.byte) (law i))))
