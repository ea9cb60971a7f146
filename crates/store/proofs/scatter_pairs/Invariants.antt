-- The loop stores the column two by two, with the place of the first of the two at hand.
use Rattle.std.proofs.Common.{◌≡◌, ◌+◌, ◌*◌, ◌<◌}
use Rattle.store.specs.Inner.Steps.{stepped, paired}
use Rattle.store.proofs.Loops.{Left}
use Rattle.store.proofs.scatter_pairs.Given as goal

abbrev pub invariant-loop-i : goal.invariant-loop-i
invariant-loop-i l = (l.at ≡ stepped l.first 514 l.i) × (l.at + 1 < 8192) × Left l.fn.ds l.bytes (paired l.first) (2 * l.i) l.ds
