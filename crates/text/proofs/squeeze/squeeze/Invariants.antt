-- `text::squeeze::squeeze` meets its contract: each byte of the part puts at most one.
use Rattle.std.proofs.Common.{◌≤◌}
use Rattle.text.proofs.squeeze.squeeze.Given as goal

abbrev pub invariant-loop-b : goal.invariant-loop-b
invariant-loop-b l = l.n ≤ l.b-index
