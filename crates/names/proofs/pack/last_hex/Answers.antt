-- `names::pack::last_hex` meets its contract.
use mathlib.Core.Path.{◌∙◌, ap}
use Prim.Native.Nat.{ℕ, ◌+◌, ◌*◌, ◌/◌, ◌%◌}
use Rattle.names.specs.Line.{digit}
use Rattle.names.specs.Inner.Code.{lead_of, last_hex}
use Rattle.names.proofs.pack.last_hex.Goals as goal

pub returns : goal.returns
unfolding last_hex
returns c =
    ap (λ (d : ℕ). c.lead-2.result * 256 + d) c.digit_of.ensures.0
    ∙ ap (λ (x : ℕ). x * 256 + digit (c.args.n % 16)) (c.lead-2.ensures.0 ∙ ap (λ (x : ℕ). lead_of x (c.args.n / 16)) c.lead.ensures.0)
