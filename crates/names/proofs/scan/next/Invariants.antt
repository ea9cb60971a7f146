-- `names::scan::next` meets its contract: the texts left are those at the start.
use mathlib.Core.Path.{◌≡◌}
use Prim.Native.Nat.{◌+◌}
use Rattle.names.proofs.Scans.{Rest}
use Rattle.names.proofs.scan.next.Given as goal

abbrev pub invariant-loop-i : goal.invariant-loop-i
invariant-loop-i l = Rest l.text (l.at + l.i) ≡ Rest l.text l.at
