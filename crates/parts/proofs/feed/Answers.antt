-- Too few bytes for a triple are kept; else the first triple is done, and those behind it if there are any.
use Rattle.std.proofs.Common.{◌-◌, List, ℕ, length, take, drop, refl, sym, ap, ◌∙◌}
use Rattle.pieces.specs.State.{State, state}
use Rattle.machine.specs.Answers.{run_outcome}
use Rattle.parts.specs.Run.{given}
use Rattle.parts.specs.declared.Run.{Run}
use Rattle.parts.proofs.Stretch.{no_more}
use Rattle.parts.proofs.Feeding.{few, first_budgeted, first_counted, many}
use Rattle.parts.proofs.feed.Goals as goal

pub returns-then-bytes-need : goal.returns-then-bytes-need
returns-then-bytes-need c =
    let s : State = state c.args.ds.now c.args.a.now c.args.r.now c.args.c.now c.args.vc.now c.args.v.now in
    ap (λ (r : Run). given r s) c.going.ensures
    ∙ few c.args.x c.requires.1 c.args.bytes.now c.twelve-first.ensures.1 s c.twelve-first.result c.if-bytes-need.true c.twelve-first.ensures.0

pub returns-then-rest-lt12 : goal.returns-then-rest-lt12
returns-then-rest-lt12 c =
    let s : State = state c.args.ds.now c.args.a.now c.args.r.now c.args.c.now c.args.vc.now c.args.v.now in
    let t : State = state c.one-one.new.ds c.one-one.new.a c.one-one.new.r c.one-one.new.c c.one-one.new.vc c.one-one.new.v in
    let bs = c.args.bytes.now in
    let rest : List ℕ = take (length bs - (12 - c.args.x.count)) (drop (12 - c.args.x.count) bs) in
    many c.args.x c.requires.1 bs c.twelve-first.ensures.1 s c.twelve-first.result rest c.if-bytes-need.false c.twelve-first.ensures.0 refl c.one-one.result t
    c.one-one.ensures c.one-one.result t (sym (no_more c.args.x.budget rest (run_outcome c.one-one.result t) c.if-rest-lt12.true)) c.closing.result
    c.closing.ensures

pub stream-all-requires : goal.stream-all-requires
stream-all-requires c =
    let s : State = state c.args.ds.now c.args.a.now c.args.r.now c.args.c.now c.args.vc.now c.args.v.now in
    let t : State = state c.one-one.new.ds c.one-one.new.a c.one-one.new.r c.one-one.new.c c.one-one.new.vc c.one-one.new.v in
    let bs = c.args.bytes.now in
    let rest : List ℕ = take (length bs - (12 - c.args.x.count)) (drop (12 - c.args.x.count) bs) in
    let k = c.one-one.auto in
    let w = c.requires.0 in (
      record { ds = k.ds ∙ w.ds; a = k.a ∙ w.a; r = k.r ∙ w.r; c = k.c ∙ w.c; vc = k.vc ∙ w.vc; v = k.v ∙ w.v },
      first_budgeted c.args.x c.requires.1 bs c.twelve-first.ensures.1 s c.twelve-first.result rest c.if-bytes-need.false c.twelve-first.ensures.0 refl
          c.one-one.result t c.one-one.ensures,
      first_counted c.args.x c.requires.1 bs c.twelve-first.ensures.1 s c.twelve-first.result rest c.if-bytes-need.false c.twelve-first.ensures.0 refl
          c.one-one.result t c.one-one.ensures,
    )

pub returns : goal.returns
returns c =
    let s : State = state c.args.ds.now c.args.a.now c.args.r.now c.args.c.now c.args.vc.now c.args.v.now in
    let t : State = state c.one-one.new.ds c.one-one.new.a c.one-one.new.r c.one-one.new.c c.one-one.new.vc c.one-one.new.v in
    let u : State = state c.stream-all.new.ds c.stream-all.new.a c.stream-all.new.r c.stream-all.new.c c.stream-all.new.vc c.stream-all.new.v in
    let bs = c.args.bytes.now in
    let rest : List ℕ = take (length bs - (12 - c.args.x.count)) (drop (12 - c.args.x.count) bs) in
    many c.args.x c.requires.1 bs c.twelve-first.ensures.1 s c.twelve-first.result rest c.if-bytes-need.false c.twelve-first.ensures.0 refl c.one-one.result t
    c.one-one.ensures c.stream-all.result u c.stream-all.ensures c.closing-2.result c.closing-2.ensures
