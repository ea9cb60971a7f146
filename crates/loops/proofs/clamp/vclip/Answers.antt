-- `loops::clamp::vclip` meets its contract.
use Rattle.std.proofs.Common.{rules, get_or}
use Rattle.lane.specs.Lane.{clip_lane}
use Rattle.lane.proofs.Clamped.{clip_untold}
use Rattle.lanes.specs.Inner.Unpacked.{clip_unpacked}
use Rattle.lanes.proofs.FromFn.{from_fn_gives}
use Rattle.loops.proofs.Beside.{untold_beside}
use Rattle.loops.proofs.clamp.vclip.Goals as goal

pub returns : goal.returns
unfolding clip_unpacked
returns c =
    untold_beside (λ i. clip_lane (get_or c.args.a i 0) (get_or c.args.b i 0) (get_or c.args.c i 0)) (λ i. clip_untold _ _ _)
    (from_fn_gives c.from_fn-bytes.ensures.items _ (λ i y f' l p. search rules)) (from_fn_gives c.from_fn-tops.ensures.items _ (λ i y f' l p. search rules))
