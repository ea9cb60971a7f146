-- A struct that is no run's is read as a run refused with 5; of a run's what is behind the left bytes is put in order.
use Rattle.std.proofs.Common.{sym, ap, ◌∙◌, arith}
use Rattle.terms.specs.declared.End.TheVariants as E
use Rattle.parts.specs.Inner.Feed.{kept_by}
use Rattle.parts.specs.declared.Run.{Run}
use Rattle.parts.proofs.Struct.{spoilt, sound_few, tidy_over, tidy_going}
use Rattle.parts.proofs.read.Goals as goal

pub twelve-tidy-requires : goal.twelve-tidy-requires
twelve-tidy-requires c = omega (arith, sound_few c.args.x (sym c.sound.ensures ∙ c.if-not-sound.false))

pub returns-then-not-sound : goal.returns-then-not-sound
returns-then-not-sound c =
    c.kept.ensures ∙ ap (λ (r : Run). kept_by E.Lengths r) c.begin.ensures ∙ spoilt c.args.x (sym c.sound.ensures ∙ c.if-not-sound.true)

pub returns-then-x : goal.returns-then-x
returns-then-x c =
    c.kept-then-x.ensures ∙ ap (kept_by c.args.x.end) c.going-y.ensures
    ∙ tidy_over c.args.x (sym c.sound.ensures ∙ c.if-not-sound.false) c.if-x.true _ c.twelve-tidy.ensures

pub returns : goal.returns
returns c =
    c.going-y.ensures
    ∙ tidy_going c.args.x (sym c.sound.ensures ∙ c.if-not-sound.false) c.if-x.false _ c.twelve-tidy.ensures
