-- The loop has listed the first i bytes.
use Rattle.footprint.specs.Inner.Numbers.{Adds}
use Rattle.footprint.proofs.Bytes.{run}
use Rattle.footprint.proofs.list.put_bytes.Given as goal

abbrev pub invariant-loop-i : goal.invariant-loop-i
invariant-loop-i l = Adds l.initial.out (run l.code l.start l.step l.i) l.out
