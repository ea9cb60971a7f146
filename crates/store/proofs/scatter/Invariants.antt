-- The loop stores the column from its start, with the place at hand.
use Rattle.store.specs.Inner.Steps.{stepped}
use Rattle.store.proofs.Loops.{Left}
use Rattle.store.proofs.Steps.{Going}
use Rattle.store.proofs.scatter.Given as goal

abbrev pub invariant-loop-byte : goal.invariant-loop-byte
invariant-loop-byte l = Going l.first l.step l.round l.byte-index l.at × Left l.fn.ds l.bytes (stepped l.first l.step) l.byte-index l.ds
