-- The loop stores a byte to each bank, in their order.
use Rattle.std.proofs.Common.{refl}
use Rattle.store.proofs.Loops.{left_less, left_none}
use Rattle.store.proofs.Rows.{in_bank_lem}
use Rattle.store.proofs.to_banks.Goals as goal

pub loop-k-preserved : goal.loop-k-preserved
loop-k-preserved c =
    let l = c.loop-k in
    let h = c.loop-k-test.true in
    left_less _ _ l.invariant h (in_bank_lem c.args.line l.k h) refl

pub returns : goal.returns
returns c = left_none c.loop-k.invariant c.loop-k-test.false
