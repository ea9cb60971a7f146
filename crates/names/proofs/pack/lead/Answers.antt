-- `names::pack::lead` meets its contract.
use mathlib.Core.Path.{refl, ap}
use Prim.Native.Nat.{ℕ, ◌+◌, ◌*◌}
use native.Mathlib.Omega.{arith}
use borrow.Author.Tests.{eq-eqb, ne_eqb}
use Rattle.names.specs.Inner.Code.{lead_of}
use Rattle.names.proofs.pack.lead.Goals as goal

pub returns-then-m-eq0 : goal.returns-then-m-eq0
unfolding lead_of
returns-then-m-eq0 c = (rw (eq-eqb c.args.m 0 c.if-m-eq0.true) refl, omega arith)

pub returns : goal.returns
unfolding lead_of
returns c = (rw (ne_eqb c.args.m 0 c.if-m-eq0.false) (ap (λ (d : ℕ). c.args.p * 256 + d) c.digit_of.ensures.0), omega (arith, c.digit_of.ensures.1))
