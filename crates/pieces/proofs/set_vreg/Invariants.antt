-- `pieces::set_vreg`: after i turns the first i bytes are pasted.
use Rattle.std.proofs.Common.{◌≡◌, ◌*◌}
use lib.Seq.{paste}
use Rattle.pieces.proofs.set_vreg.Given as goal

abbrev pub invariant-loop-i : goal.invariant-loop-i
invariant-loop-i l = l.v ≡ paste l.fn.v (16 * l.n) l.fn.x l.i
