-- `names::find::found` meets its contract: no opcode so far has this line.
use mathlib.Core.Path.{◌≡◌}
use Prim.Native.Nat.{ℕ, ◌<◌, ◌≤◌}
use Rattle.names.specs.Inner.Code.{tried_at}
use Rattle.names.proofs.find.found.Given as goal

abbrev pub invariant-loop-op : goal.invariant-loop-op
invariant-loop-op l = (k : ℕ) → k < l.op → 128 ≤ k → tried_at k l.text ≡ 0
