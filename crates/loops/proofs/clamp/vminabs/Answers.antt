-- `loops::clamp::vminabs` meets its contract.
use Rattle.std.proofs.Common.{rules, ◌∙◌}
use Rattle.lane.specs.Lane.{min_abs_lane}
use Rattle.lanes.specs.Inner.Unpacked.{min_abs_unpacked}
use Rattle.lanes.proofs.Unpacking.{moved}
use Rattle.loops.proofs.clamp.vminabs.Goals as goal

pub returns : goal.returns
unfolding min_abs_unpacked min_abs_lane
returns c = c.mov.ensures ∙ moved _ (c.each.ensures (λ x y. (min_abs_lane x y).byte) (λ x y r u v p. search rules))
