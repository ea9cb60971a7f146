-- `names::table::head_of` meets its contract.
use mathlib.Core.Path.{ap, ◌∙◌, sym}
use Prim.Native.Nat.{ℕ, ◌/◌, ◌%◌}
use borrow.Author.Tests.{eqb-true, eqb-false}
use lib.Dec.{eqb}
use Rattle.names.proofs.Heads.{head_cut, head_whole}
use Rattle.names.proofs.table.head_of.Goals as goal

pub returns-then-spaced : goal.returns-then-spaced
returns-then-spaced c = let e = c.name_of-n.ensures in ap (λ (x : ℕ). x / 65536) e ∙ head_cut c.args.op c.requires (eqb-true _ _ (ap (λ (x : ℕ). eqb (x / 256 % 256) 32) (sym e) ∙ sym c.spaced.ensures ∙ c.if-spaced.true))

pub returns : goal.returns
returns c = let e = c.name_of-n.ensures in e ∙ head_whole c.args.op c.requires (eqb-false _ _ (ap (λ (x : ℕ). eqb (x / 256 % 256) 32) (sym e) ∙ sym c.spaced.ensures ∙ c.if-spaced.false))
