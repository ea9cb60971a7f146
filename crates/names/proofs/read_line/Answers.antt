-- `names::read_line` meets its contract.
use mathlib.Core.Path.{ap, ◌∙◌, sym}
use Rattle.names.specs.declared.Read.{Read}
use Rattle.names.specs.Calls.{read}
use Rattle.names.proofs.Heads.{known_none, known_some}
use Rattle.names.proofs.Reading.{read_unended, read_unnamed, read_amiss, read_done}
use Rattle.names.proofs.read_line.Goals as goal

pub returns-then-not-one_feed : goal.returns-then-not-one_feed
returns-then-not-one_feed c = ap (λ (r : Read). read r) c.unread.ensures ∙ read_unended c.args.text.now (sym c.one_feed.ensures ∙ c.if-not-one_feed.true)

pub returns-in_default : goal.returns-in_default
returns-in_default c =
    ap (λ (r : Read). read r) c.unread-in_default.ensures
    ∙ read_unnamed c.args.text.now c.heading-h.result c.heading-h.ensures.0 (sym c.one_feed.ensures ∙ c.if-not-one_feed.false) (known_none c.heading-h.result c.heading-h.ensures.1 c.in_default.ensures)

pub returns-in_default-found : goal.returns-in_default-found
returns-in_default-found c =
    let n = c.in-Some in
    ap (λ (r : Read). read r) c.unread-in_default-found.ensures
    ∙ read_amiss c.args.text.now c.heading-h.result c.heading-h.ensures.0 (sym c.one_feed.ensures ∙ c.if-not-one_feed.false) (known_some c.heading-h.result n.op n.ensures.1 n.ensures.3) c.in_default-found.ensures

pub returns : goal.returns
returns c =
    let n = c.in-Some in let w = c.in-Some-found in
    read_done c.args.text.now c.heading-h.result c.heading-h.ensures.0 (sym c.one_feed.ensures ∙ c.if-not-one_feed.false) (known_some c.heading-h.result n.op n.ensures.1 n.ensures.3) w.w w.ensures.0 w.ensures.1
