-- A run that is over stays; any other ends by what is left over.
use Rattle.std.proofs.Common.{sym, ap, ◌∙◌}
use Rattle.model.proofs.Parts.{over_end}
use Rattle.parts.specs.Run.{meant_by, struct_of}
use Rattle.parts.specs.Inner.Feed.{kept_by}
use Rattle.parts.specs.declared.Run.{Run}
use Rattle.parts.proofs.Struct.{over_of, count_of_lem, end_struct}
use Rattle.parts.proofs.end.Goals as goal

pub returns-then-y : goal.returns-then-y
returns-then-y c =
    let p = meant_by c.args.run in
    c.read-y.ensures ∙ ap struct_of (sym (over_end p (over_of p c.read-y.ensures ∙ c.if-y.true)))

pub returns : goal.returns
returns c =
    let p = meant_by c.args.run in
    c.kept.ensures
    ∙ ap (λ (r : Run). kept_by c.ending.result r) c.read-y.ensures
    ∙ end_struct p c.ending.result (over_of p c.read-y.ensures ∙ c.if-y.false) (c.ending.ensures ∙ count_of_lem p c.read-y.ensures)
