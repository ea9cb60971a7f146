-- The loop fills both halves side by side.
use Rattle.store.proofs.Loops.{twice_more, twice_all}
use Rattle.store.proofs.Rows.{in_bank_lem, in_bank_again}
use Rattle.store.proofs.banked.Goals as goal

pub loop-k-preserved : goal.loop-k-preserved
loop-k-preserved c =
    let l = c.loop-k in
    let h = c.loop-k-test.true in
    twice_more _ l.invariant h (in_bank_lem c.args.line l.k h) (in_bank_again c.args.line l.k h)

pub returns : goal.returns
returns c = twice_all c.loop-k.invariant c.loop-k-test.false
