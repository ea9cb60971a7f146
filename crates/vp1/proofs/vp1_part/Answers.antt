-- Words of another length are refused; else a part of the run, told by its number and its counts.
use Rattle.std.proofs.Common.{ap, ◌∙◌}
use Rattle.pieces.specs.State.{State, state}
use Rattle.parts.specs.Words.{unworded}
use Rattle.vp1.proofs.Told.{part_unlent, part_told_lem}
use Rattle.vp1.proofs.vp1_part.Goals as goal

pub returns-in_default : goal.returns-in_default
returns-in_default c =
    let s : State = state c.args.ds.now c.args.a.now c.args.r.now c.args.c.now c.args.vc.now c.args.v.now in
    part_unlent c.from.result c.args.run.now c.in_default.ensures.cases c.from.ensures c.args.bytes.now s

pub returns : goal.returns
returns c =
    let s : State = state c.args.ds.now c.args.a.now c.args.r.now c.args.c.now c.args.vc.now c.args.v.now in
    let t : State = state c.part-fed.new.ds c.part-fed.new.a c.part-fed.new.r c.part-fed.new.c c.part-fed.new.vc c.part-fed.new.v in
    part_told_lem c.from-2.result c.args.run.now c.in-Some.ensures.cases.long c.part-fed.result c.store.new.to c.store.ensures c.from-2.ensures
    c.args.bytes.now s t c.load.result (c.load.ensures ∙ ap unworded c.in-Some.ensures.cases.same) c.part-fed.ensures
