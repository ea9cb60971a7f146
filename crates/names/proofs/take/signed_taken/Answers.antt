-- `names::take::signed_taken` meets its contract.
use mathlib.Core.Path.{sym, ◌∙◌, ap}
use Prim.Native.Nat.{ℕ, ◌-◌, ◌*◌, ◌%◌}
use native.Mathlib.Omega.{arith}
use Rattle.names.proofs.Alike.{imm_minus, imm_plus}
use Rattle.names.proofs.take.signed_taken.Goals as goal

pub returns-then-byte_at-eq45 : goal.returns-then-byte_at-eq45
returns-then-byte_at-eq45 c = (
  ap (λ (n : ℕ). n % 2048 * 8) (c.away.ensures.0 ∙ ap (λ (n : ℕ). 2048 - n) c.digits.ensures.0)
      ∙ imm_minus c.args.text.now c.args.at (sym c.byte_at.ensures ∙ c.if-byte_at-eq45.true),
  omega arith,
)

pub returns : goal.returns
returns c = (
  ap (λ (n : ℕ). n % 2048 * 8) c.digits-2.ensures.0
      ∙ imm_plus c.args.text.now c.args.at (λ q. c.if-byte_at-eq45.false (c.byte_at.ensures ∙ q)),
  omega arith,
)
