-- `loops::nine::vadd9` meets its contract, over the sixteen words of sources 2 and 3.
use Rattle.std.proofs.Common.{rules, get_or, refl, ◌∙◌}
use Rattle.lane.specs.Lane.{saturated, add9_lane}
use Rattle.lanes.proofs.FromFn.{from_fn_gives}
use Rattle.loops.proofs.Beside.{told_beside}
use Rattle.loops.proofs.Words9.{by_words}
use Rattle.loops.proofs.nine.vadd9.Goals as goal

pub returns : goal.returns
unfolding add9_lane saturated
returns c =
    told_beside (λ i. add9_lane (get_or c.args.a i 0) (get_or c.words-w.result i 0)) (λ i. refl)
    (from_fn_gives c.from_fn-bytes.ensures.items _ (λ i y f' l p. search rules)) (from_fn_gives c.from_fn-tops.ensures.items _ (λ i y f' l p. search rules))
    c.tally.ensures
    ∙ by_words _ _ _ _ c.words-w.ensures
