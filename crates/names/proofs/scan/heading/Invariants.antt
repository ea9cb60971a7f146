-- `names::scan::heading` meets its contract: the first bytes, packed, and what is left of the name.
use mathlib.Core.Path.{◌≡◌}
use mathlib.Core.List.{◌++◌}
use Prim.Native.Nat.{◌≤◌}
use lib.Dec.{T}
use lib.ListN.{take, drop}
use Rattle.names.specs.Calls.{up_to}
use Rattle.names.specs.Inner.Code.{packed}
use Rattle.names.proofs.Lines.{bytes}
use Rattle.names.proofs.scan.heading.Given as goal

abbrev pub invariant-loop-i : goal.invariant-loop-i
invariant-loop-i l = (l.i ≤ 7) × (l.p ≡ packed 1 (take l.i l.text)) × T (bytes (take l.i l.text)) × (up_to l.text ≡ take l.i l.text ++ up_to (drop l.i l.text))
