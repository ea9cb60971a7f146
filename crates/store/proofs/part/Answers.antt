-- The loop fills the row from its start.
use Rattle.std.proofs.Common.{refl}
use Rattle.store.proofs.Loops.{filled_more, filled_all}
use Rattle.store.proofs.part.Goals as goal

pub loop-i-preserved : goal.loop-i-preserved
loop-i-preserved c = filled_more _ c.loop-i.invariant c.loop-i-test.true refl

pub returns : goal.returns
returns c = filled_all c.loop-i.invariant c.loop-i-test.false
