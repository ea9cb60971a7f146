-- Where the run stopped it is over; else what is left of the bytes is kept.
use Rattle.std.proofs.Common.{sym, ap, ◌∙◌}
use Rattle.parts.specs.Inner.Feed.{kept_by}
use Rattle.parts.proofs.Struct.{closed, carried}
use Rattle.parts.proofs.closing.Goals as goal

pub returns-then-stopped : goal.returns-then-stopped
returns-then-stopped c =
    c.kept.ensures ∙ ap (kept_by c.args.x.end) c.going.ensures
    ∙ closed c.args.budget c.args.x c.args.rest.now (sym c.stopped.ensures ∙ c.if-stopped.true)

pub returns : goal.returns
returns c =
    c.going-2.ensures
    ∙ carried c.args.budget c.args.x c.args.rest.now c.twelve-held.result (sym c.stopped.ensures ∙ c.if-stopped.false) c.twelve-held.ensures.0
