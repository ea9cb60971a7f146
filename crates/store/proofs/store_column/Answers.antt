-- The steps are the column's places.
use Rattle.std.proofs.Common.{rules}
use Rattle.store.proofs.Laws.{stored_along}
use Rattle.store.proofs.Access.{column_places, paired_places, paired_even}
use Rattle.store.proofs.store_column.Goals as goal

pub scatter_pairs-requires : goal.scatter_pairs-requires
scatter_pairs-requires c = (search rules, paired_even _ _ _ c.if-code-eq0.true c.column_head-first.ensures.0)

pub returns-then-code-eq0 : goal.returns-then-code-eq0
returns-then-code-eq0 c =
    stored_along _ _ _ _ _ c.scatter_pairs.ensures (paired_places _ _ _ c.if-code-eq0.true c.column_head-first.ensures.0)

pub returns-else-code-eq0 : goal.returns-else-code-eq0
returns-else-code-eq0 c =
    stored_along _ _ _ _ _ c.scatter.ensures
    (column_places _ _ _ _ c.if-code-eq0.false c.column_head-first.ensures.0 c.column_step.ensures.0)
