-- A run that is over stays; on pieces of other lengths it is over with 5; else it is fed.
use Rattle.std.proofs.Common.{sym, ◌∙◌}
use Rattle.pieces.specs.State.{State, state}
use Rattle.pieces.proofs.Right.{sized_if}
use Rattle.parts.proofs.Called.{part_over, part_open, part_lengths, part_feeds}
use Rattle.parts.proofs.part.Goals as goal

pub returns-then-x : goal.returns-then-x
returns-then-x c =
    let s : State = state c.args.ds.now c.args.a.now c.args.r.now c.args.c.now c.args.vc.now c.args.v.now in
    part_over c.args.run c.read-x.result c.read-x.ensures c.args.bytes.now s c.if-x.true

pub feed-requires : goal.feed-requires
feed-requires c =
    let s : State = state c.args.ds.now c.args.a.now c.args.r.now c.args.c.now c.args.vc.now c.args.v.now in (
      sized_if s (sym c.sized-sized.ensures ∙ c.if-sized.true),
      part_open c.args.run c.read-x.result c.read-x.ensures c.args.bytes.now s c.if-x.false,
    )

pub returns-then-sized : goal.returns-then-sized
returns-then-sized c =
    let s : State = state c.args.ds.now c.args.a.now c.args.r.now c.args.c.now c.args.vc.now c.args.v.now in
    let t : State = state c.feed.new.ds c.feed.new.a c.feed.new.r c.feed.new.c c.feed.new.vc c.feed.new.v in
    part_feeds c.args.run c.read-x.result c.read-x.ensures c.args.bytes.now s c.if-x.false (sized_if s (sym c.sized-sized.ensures ∙ c.if-sized.true))
    c.feed.result t c.feed.ensures

pub returns : goal.returns
returns c =
    let s : State = state c.args.ds.now c.args.a.now c.args.r.now c.args.c.now c.args.vc.now c.args.v.now in
    part_lengths c.args.run c.read-x.result c.read-x.ensures c.args.bytes.now s c.if-x.false (sym c.sized-sized.ensures ∙ c.if-sized.false) c.kept.result
    c.kept.ensures
