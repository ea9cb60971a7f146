-- The loop stores a byte to each bank, in their order.
use Rattle.store.specs.Inner.Steps.{in_bank}
use Rattle.store.proofs.Loops.{Left}
use Rattle.store.proofs.to_banks.Given as goal

abbrev pub invariant-loop-k : goal.invariant-loop-k
invariant-loop-k l = Left l.fn.ds l.w (in_bank l.line) l.k l.ds
