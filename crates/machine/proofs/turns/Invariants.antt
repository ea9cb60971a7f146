-- What is left of the list, run from here, is what the whole list does.
use Rattle.pieces.specs.State.{state}
use Rattle.machine.proofs.Loop.{Turned}
use Rattle.machine.proofs.turns.Given as goal

abbrev pub invariant-loop-triple : goal.invariant-loop-triple
invariant-loop-triple l =
    Turned l.fn.words l.fn.budget l.most (state l.fn.ds l.fn.a l.fn.r l.fn.c l.fn.vc l.fn.v) (state l.ds l.a l.r l.c l.vc l.v) l.counts l.steps l.triple-index
