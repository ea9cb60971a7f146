-- The loop fills both halves side by side.
use Rattle.store.specs.Inner.Steps.{in_bank}
use Rattle.store.proofs.Loops.{Twice}
use Rattle.store.proofs.banked.Given as goal

abbrev pub invariant-loop-k : goal.invariant-loop-k
invariant-loop-k l = Twice l.ds (in_bank l.line) l.k l.w
