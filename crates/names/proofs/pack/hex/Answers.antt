-- `names::pack::hex` meets its contract.
use mathlib.Core.Path.{◌∙◌, ap}
use Prim.Native.Nat.{ℕ}
use native.Mathlib.Omega.{arith}
use Rattle.names.specs.Inner.Code.{last_hex}
use Rattle.names.proofs.Packed.{hex_whole}
use Rattle.names.proofs.pack.hex.Goals as goal

pub returns : goal.returns
returns c = c.last_hex.ensures ∙ ap (λ (x : ℕ). last_hex x c.args.n) c.lead.ensures.0 ∙ hex_whole c.args.p c.args.n (omega arith)
