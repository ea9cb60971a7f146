-- The loop stores the column from its start, with the place at hand.
use Rattle.std.proofs.Common.{refl, arith, rules}
use Rattle.store.proofs.Loops.{left_all, left_less, left_none}
use Rattle.store.proofs.Steps.{going, going_on}
use Rattle.store.proofs.scatter.Goals as goal

pub loop-byte-init : goal.loop-byte-init
loop-byte-init c = (going _ _ _ (search rules) (search rules), left_all _ _ _ (search rules))

pub loop-byte-preserved : goal.loop-byte-preserved
loop-byte-preserved c =
    let l = c.loop-byte in
    (going_on l.invariant.0, left_less l.at _ l.invariant.1 (omega arith) l.invariant.0.placed refl)

pub returns : goal.returns
returns c = left_none c.loop-byte.invariant.1 (omega arith)
