-- The loop fills the row from its start.
use Rattle.std.proofs.Common.{◌+◌}
use Rattle.store.proofs.Loops.{Filled}
use Rattle.store.proofs.part.Given as goal

abbrev pub invariant-loop-i : goal.invariant-loop-i
invariant-loop-i l = Filled l.w (λ k. l.first + k) l.i l.x
