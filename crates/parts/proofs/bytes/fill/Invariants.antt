-- The first k words are put down, and the buffer is as long as it was.
use Rattle.std.proofs.Common.{◌≡◌, length, drop}
use Rattle.parts.proofs.Fill.{filled}
use Rattle.parts.proofs.bytes.fill.Given as goal

abbrev pub invariant-loop-k : goal.invariant-loop-k
invariant-loop-k l = (length l.words ≡ 480) × (l.words ≡ filled l.k (drop l.at l.bytes) l.fn.words)
