-- `names::scan::digits` meets its contract: the digits so far, and those left.
use mathlib.Core.Path.{◌≡◌}
use Prim.Native.Nat.{◌+◌, ◌<◌}
use Rattle.names.proofs.Scans.{Digits}
use Rattle.names.proofs.scan.digits.Given as goal

abbrev pub invariant-loop-b : goal.invariant-loop-b
invariant-loop-b l = (l.n < 65536) × (Digits l.base l.n l.k l.text (l.at + l.b-index) ≡ Digits l.base 0 l.skip l.text l.at)
