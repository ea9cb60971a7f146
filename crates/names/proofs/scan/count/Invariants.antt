-- `names::scan::count` meets its contract: those counted and those left are those at the start.
use mathlib.Core.Path.{◌≡◌}
use Prim.Native.Nat.{◌+◌, ◌≤◌}
use lib.ListN.{length}
use Rattle.names.proofs.Scans.{Rest}
use Rattle.names.proofs.scan.count.Given as goal

abbrev pub invariant-loop-b : goal.invariant-loop-b
invariant-loop-b l = (l.n ≤ l.b-index) × (l.n + length (Rest l.text (l.at + l.b-index)) ≡ length (Rest l.text l.at))
