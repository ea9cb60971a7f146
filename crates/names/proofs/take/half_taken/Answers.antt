-- `names::take::half_taken` meets its contract.
use mathlib.Core.Path.{sym, ◌∙◌}
use native.Mathlib.Omega.{arith}
use Rattle.names.proofs.Alike.{half_hi, half_lo}
use Rattle.names.proofs.take.half_taken.Goals as goal

pub returns-then-byte_at-eq104 : goal.returns-then-byte_at-eq104
returns-then-byte_at-eq104 c = (half_hi c.args.text.now c.args.at (sym c.byte_at.ensures ∙ c.if-byte_at-eq104.true), omega arith)

pub returns : goal.returns
returns c = (half_lo c.args.text.now c.args.at (λ q. c.if-byte_at-eq104.false (c.byte_at.ensures ∙ q)), omega arith)
