-- The loop fills the column from its start, with the place at hand.
use Rattle.std.proofs.Common.{◌≡◌, [], drop, append-nil, arith, rules}
use Rattle.std.proofs.lemmas.List.{drop_all}
use Rattle.store.proofs.Loops.{filled_none, filled_more, filled_all}
use Rattle.store.proofs.Steps.{going, going_on}
use Rattle.store.proofs.gather.Goals as goal

pub loop-byte-init : goal.loop-byte-init
loop-byte-init c = (going _ _ _ (search rules) (search rules), filled_none _ _ _ (search rules))

pub loop-byte-preserved : goal.loop-byte-preserved
loop-byte-preserved c =
    let l = c.loop-byte in
    (going_on l.invariant.0, filled_more l.at l.invariant.1 (search rules) l.invariant.0.placed)

pub returns : goal.returns
returns c =
    let l = c.loop-byte in
    let e : drop 16 c.args.out.now ≡ [] = drop_all 16 c.args.out.now (omega arith) in
    rw (e, append-nil l.byte-items) (filled_all l.invariant.1 (search rules))
