-- `lanes::moves::vmov` meets its contract: the same byte sixteen times.
use mathlib.Core.Path.{refl}
use Rattle.lane.specs.Lane.{mov_imm_lane}
use Rattle.lanes.specs.Lanes.{listed, how_many}
use Rattle.lanes.specs.Inner.Unpacked.{mov_imm_unpacked, unpacked_of}
use Rattle.lanes.proofs.moves.vmov.Goals as goal

pub returns : goal.returns
unfolding mov_imm_unpacked unpacked_of mov_imm_lane listed how_many
returns c = refl
