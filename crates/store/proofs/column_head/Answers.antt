-- The low four bits are the bank of the column's first address.
use Rattle.store.proofs.Access.{head_placed}
use Rattle.store.proofs.column_head.Goals as goal

pub returns : goal.returns
returns c = head_placed _ _ _ c.start.ensures
