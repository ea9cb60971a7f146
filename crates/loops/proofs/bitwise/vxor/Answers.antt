-- `loops::bitwise::vxor` meets its contract.
use Rattle.std.proofs.Common.{rules, ◌∙◌}
use Rattle.lane.specs.Lane.{logic_lane, logic_of}
use Rattle.lanes.specs.Inner.Unpacked.{logic_unpacked}
use Rattle.lanes.proofs.Unpacking.{moved}
use Rattle.lanes.proofs.FromFn.{from_fn_gives}
use Rattle.loops.proofs.bitwise.vxor.Goals as goal

pub returns : goal.returns
unfolding logic_unpacked logic_lane logic_of
returns c = c.mov.ensures ∙ moved _ (from_fn_gives c.from_fn.ensures.items _ (λ i y f' l p. search rules))
