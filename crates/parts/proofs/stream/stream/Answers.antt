-- A turn by the laws of one turn (Streaming.antt), on the state behind the pieces.
use Rattle.std.proofs.Common.{sym, ◌∙◌}
use Rattle.parts.proofs.Streaming.{ends, small, next}
use Rattle.parts.proofs.stream.stream.Goals as goal

pub added-ran-requires : goal.added-ran-requires
added-ran-requires c =
    small c.loop-i.invariant c.loop-i-test.true c.room-n.result c.room-n.ensures c.fill.new.words c.fill.ensures
    c.run-x.result _ c.run-x.ensures c.ranges.budget.fits

pub loop-i-preserved : goal.loop-i-preserved
loop-i-preserved c =
    let k = c.run-x.auto in
    let z = c.loop-i.invariant.sized in
    next c.loop-i.invariant c.loop-i-test.true c.room-n.result c.room-n.ensures c.fill.new.words c.fill.ensures
    c.run-x.result _ c.run-x.ensures (sym c.stopped.ensures ∙ c.if-stopped.false)
    (record { ds = k.ds ∙ z.ds; a = k.a ∙ z.a; r = k.r ∙ z.r; c = k.c ∙ z.c; vc = k.vc ∙ z.vc; v = k.v ∙ z.v })
    c.added-ran.result c.added-ran.ensures

pub returns : goal.returns
returns c = ends c.loop-i.invariant c.loop-i-test.false
