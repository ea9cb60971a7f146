-- The loop fills the column from its start, with the place at hand.
use Rattle.store.specs.Inner.Steps.{stepped}
use Rattle.store.proofs.Loops.{Filled}
use Rattle.store.proofs.Steps.{Going}
use Rattle.store.proofs.gather.Given as goal

abbrev pub invariant-loop-byte : goal.invariant-loop-byte
invariant-loop-byte l = Going l.first l.step l.round l.byte-index l.at × Filled l.ds (stepped l.first l.step) l.byte-index l.byte-items
