-- A run that is not over, with no bytes left over.
use Rattle.std.proofs.Common.{[], ap, ◌∙◌}
use Rattle.terms.specs.declared.Counts.{Counts}
use Rattle.parts.specs.Run.{twelve, struct_of}
use Rattle.parts.specs.Inner.Feed.{going_by}
use Rattle.parts.proofs.begin.Goals as goal

pub returns : goal.returns
unfolding struct_of
returns c = c.going.ensures ∙ ap (λ (k : Counts). going_by c.args.budget 0 k 0 (twelve [])) c.default-counts.ensures
