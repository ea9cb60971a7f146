-- What is left of the bytes, run from here, is what all of them come to.
use Rattle.std.proofs.Common.{◌-◌}
use Rattle.pieces.specs.State.{state}
use Rattle.parts.proofs.Streaming.{Streaming}
use Rattle.parts.proofs.stream.stream.Given as goal

abbrev pub invariant-loop-i : goal.invariant-loop-i
invariant-loop-i l =
    Streaming l.bytes l.budget l.whole (state l.fn.ds l.fn.a l.fn.r l.fn.c l.fn.vc l.fn.v) (state l.ds l.a l.r l.c l.vc l.v) l.fn.from l.ran l.words l.i

abbrev pub decreases-loop-i : goal.decreases-loop-i
decreases-loop-i l = l.whole - l.i
