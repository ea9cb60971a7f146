-- `names::show::signed` meets its contract.
use mathlib.Core.Path.{◌∙◌}
use native.Mathlib.Omega.{arith}
use Rattle.names.proofs.Packed.{hex_last}
use Rattle.names.proofs.Pieces.{imm_up, imm_down}
use Rattle.names.proofs.show.signed.Goals as goal

pub returns-then-v-lt1024 : goal.returns-then-v-lt1024
returns-then-v-lt1024 c = c.hex.ensures ∙ imm_up c.args.w c.if-v-lt1024.true

pub returns : goal.returns
returns c = c.last_hex.ensures ∙ hex_last 0x01202d3078 _ (omega arith) ∙ imm_down c.args.w c.if-v-lt1024.false
