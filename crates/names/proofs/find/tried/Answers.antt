-- `names::find::tried` meets its contract: the candidate's line is compared with the text.
use mathlib.Core.Path.{ap, ◌∙◌, sym, subst}
use mathlib.Core.List.{List}
use Prim.Native.Nat.{ℕ}
use native.Mathlib.Omega.{arith}
use lib.Dec.{T}
use Rattle.names.specs.Table.{documented, op_of, line_of}
use Rattle.names.specs.Calls.{eqs}
use Rattle.names.proofs.Alike.{pointwise_eqs}
use Rattle.names.proofs.Reading.{candidate_known, candidate_some, tried_line, tried_wrong}
use Rattle.names.proofs.find.tried.Goals as goal

pub spelt-requires : goal.spelt-requires
spelt-requires c = subst (λ (w : ℕ). T (documented (op_of w))) (sym c.candidate-w.ensures) (candidate_known c.args.text.now c.args.op (omega arith) c.requires.2)

pub returns-then-eq : goal.returns-then-eq
returns-then-eq c =
    let q = c.bytes.ensures ∙ c.spelt.ensures.1 ∙ ap line_of c.candidate-w.ensures in
    (c.candidate-w.ensures ∙ tried_line c.args.text.now c.args.op c.requires.2 (ap (λ (l : List ℕ). eqs l c.args.text.now) (sym q) ∙ sym (pointwise_eqs c.bytes.result.now c.args.text.now) ∙ sym c.eq.ensures ∙ c.if-eq.true), λ z. candidate_some c.args.text.now c.args.op (omega arith) (omega arith) (sym c.candidate-w.ensures ∙ z))

pub returns : goal.returns
returns c =
    let q = c.bytes.ensures ∙ c.spelt.ensures.1 ∙ ap line_of c.candidate-w.ensures in
    sym (tried_wrong c.args.text.now c.args.op (ap (λ (l : List ℕ). eqs l c.args.text.now) (sym q) ∙ sym (pointwise_eqs c.bytes.result.now c.args.text.now) ∙ sym c.eq.ensures ∙ c.if-eq.false))
