-- `names::find::start` meets its contract.
use mathlib.Core.Path.{ap, ◌∙◌, sym}
use mathlib.Core.List.{List}
use Prim.Native.Nat.{ℕ, ◌/◌, ◌%◌}
use native.Mathlib.Omega.{arith}
use borrow.Author.Tests.{eqb-true, eqb-false}
use lib.Dec.{eqb}
use lib.ListN.{drop}
use Rattle.names.specs.Inner.Scan.{split}
use Rattle.names.proofs.Heads.{one_part, no_part}
use Rattle.names.proofs.find.start.Goals as goal

pub returns-then-spaced : goal.returns-then-spaced
returns-then-spaced c =
    let q = one_part c.args.op c.requires (eqb-true _ _ (ap (λ (x : ℕ). eqb (x / 256 % 256) 32) (sym c.name_of.ensures) ∙ sym c.spaced.ensures ∙ c.if-spaced.true)) in
    (c.next.ensures.0, ap (λ (p : List ℕ × List (List ℕ)). p.1) c.next.ensures.1 ∙ ap (λ (k : ℕ). drop k (split c.args.text.now).1) (sym q))

pub returns : goal.returns
returns c =
    let q = no_part c.args.op c.requires (eqb-false _ _ (ap (λ (x : ℕ). eqb (x / 256 % 256) 32) (sym c.name_of.ensures) ∙ sym c.spaced.ensures ∙ c.if-spaced.false)) in
    (omega arith, ap (λ (k : ℕ). drop k (split c.args.text.now).1) (sym q))
