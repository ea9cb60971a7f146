-- `names::table::first_named` meets its contract: no opcode so far has this name.
use mathlib.Core.Path.{◌≡◌}
use Prim.Native.Nat.{ℕ, ◌<◌, ◌≤◌}
use Rattle.names.specs.Inner.Code.{head_code}
use Rattle.names.proofs.table.first_named.Given as goal

abbrev pub invariant-loop-op : goal.invariant-loop-op
invariant-loop-op l = (k : ℕ) → k < l.op → 128 ≤ k → head_code k ≡ l.h → ⊥
