-- The loop stores the column two by two, with the place of the first of the two at hand.
use Rattle.std.proofs.Common.{ℕ, ◌+◌, refl, ap, ◌∙◌, arith, rules}
use Rattle.store.proofs.Loops.{left_all, left_two, left_none}
use Rattle.store.proofs.Steps.{stepped_none, stepped_more, paired_low, paired_high, high_lt}
use Rattle.store.proofs.scatter_pairs.Goals as goal

pub loop-i-init : goal.loop-i-init
loop-i-init c = (stepped_none _ _ (search rules), omega arith, left_all _ _ _ (search rules))

pub loop-i-preserved : goal.loop-i-preserved
loop-i-preserved c =
    let l = c.loop-i in
    let first = c.args.first in
    let e = stepped_more first 514 l.i l.at l.invariant.0 in (
      e,
      omega (arith, high_lt first (l.i + 1) (search rules)),
      left_two l.at (l.at + 1) _ _ l.invariant.2 c.loop-i-test.true (l.invariant.0 ∙ paired_low first l.i)
          (ap (λ (x : ℕ). x + 1) l.invariant.0 ∙ paired_high first l.i) refl refl,
    )

pub returns : goal.returns
returns c = left_none c.loop-i.invariant.2 (omega arith)
