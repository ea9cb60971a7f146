-- `names::pack::decimal` meets its contract.
use mathlib.Core.Path.{◌∙◌, ap}
use Prim.Native.Nat.{ℕ, ◌+◌, ◌*◌, ◌%◌}
use native.Mathlib.Omega.{arith}
use Rattle.names.specs.Line.{digit}
use Rattle.names.proofs.Packed.{decimal_whole}
use Rattle.names.proofs.pack.decimal.Goals as goal

pub returns : goal.returns
returns c =
    ap (λ (d : ℕ). c.lead.result * 256 + d) c.digit_of.ensures.0
    ∙ ap (λ (x : ℕ). x * 256 + digit (c.args.n % 10)) c.lead.ensures.0
    ∙ decimal_whole c.args.p c.args.n (omega arith)
