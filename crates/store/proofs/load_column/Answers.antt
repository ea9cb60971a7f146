-- The steps are the column's places.
use Rattle.std.proofs.Common.{ap, ◌∙◌, rules}
use Rattle.store.specs.Inner.Loads.{loaded}
use Rattle.store.proofs.Access.{column_places, paired_places, paired_even}
use Rattle.store.proofs.load_column.Goals as goal

pub gather_pairs-requires : goal.gather_pairs-requires
gather_pairs-requires c = (search rules, search rules, paired_even _ _ _ c.if-code-eq0.true c.column_head-first.ensures.0)

pub returns-then-code-eq0 : goal.returns-then-code-eq0
returns-then-code-eq0 c =
    c.gather_pairs.ensures ∙ ap (loaded _) (paired_places _ _ _ c.if-code-eq0.true c.column_head-first.ensures.0)

pub returns-else-code-eq0 : goal.returns-else-code-eq0
returns-else-code-eq0 c =
    c.gather.ensures ∙ ap (loaded _) (column_places _ _ _ _ c.if-code-eq0.false c.column_head-first.ensures.0 c.column_step.ensures.0)
