-- `loops::bitwise::vbitop` meets its contract.
use Rattle.std.proofs.Common.{rules, ◌∙◌}
use Rattle.bits.specs.Bitop.{bitop}
use Rattle.lane.specs.Lane.{bitop_lane}
use Rattle.lanes.specs.Inner.Unpacked.{bitop_unpacked}
use Rattle.lanes.proofs.Unpacking.{moved}
use Rattle.loops.proofs.bitwise.vbitop.Goals as goal

pub returns : goal.returns
unfolding bitop_unpacked bitop_lane
returns c = c.mov.ensures ∙ moved _ (c.each.ensures (bitop 8 c.args.op) (λ x y r u v p. search rules))
