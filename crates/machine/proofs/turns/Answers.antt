-- A turn by the laws of one turn (Loop.antt), on the state behind the pieces.
use Rattle.std.proofs.Common.{ℕ, ◌/◌, ◌<◌, ◌≤◌, ap, ◌∙◌, arith}
use Rattle.terms.specs.Answers.{number}
use Rattle.terms.specs.declared.End.{End}
use Rattle.pieces.specs.State.{State, state}
use Rattle.model.specs.Run.{ended}
use Rattle.machine.proofs.Loop.{long, read, fits, next, off, last, said}
use Rattle.machine.proofs.turns.Goals as goal

pub returns-in_default : goal.returns-in_default
returns-in_default c =
    let ws = c.args.words.now in
    let b = c.args.budget in
    let front = c.as_chunks.ensures.front in
    let size = c.as_chunks.ensures.front_len in
    let m = ap (λ (k : ℕ). k / 3) c.covered-most.ensures in
    let n = c.loop-triple.triple-index in
    let l : n < c.covered-most.result / 3 = omega (arith, c.loop-triple-test.true, long ws b front size m) in
    let e = read ws b front size m n l _ c.triple-x.ensures in
    let after : State = state c.triple-x.new.ds c.triple-x.new.a c.triple-x.new.r c.triple-x.new.c c.triple-x.new.vc c.triple-x.new.v in
    said after c.report.ensures
    (ap (λ (x : End). ended (number x) c.loop-triple.steps c.loop-triple.counts after) c.end_of.ensures
    ∙ off c.loop-triple.invariant l c.triple-x.result after e c.in_default.field-0 c.in_default.is)

pub more-counts-requires : goal.more-counts-requires
more-counts-requires c =
    let ws = c.args.words.now in
    let b = c.args.budget in
    let front = c.as_chunks.ensures.front in
    let size = c.as_chunks.ensures.front_len in
    let m = ap (λ (k : ℕ). k / 3) c.covered-most.ensures in
    let n = c.loop-triple.triple-index in
    let l : n < c.covered-most.result / 3 = omega (arith, c.loop-triple-test.true, long ws b front size m) in
    let e = read ws b front size m n l _ c.triple-x.ensures in
    fits c.loop-triple.invariant l c.triple-x.result _ e c.ranges.budget.fits c.in-Ok.n c.in-Ok.is

pub loop-triple-preserved : goal.loop-triple-preserved
loop-triple-preserved c =
    let ws = c.args.words.now in
    let b = c.args.budget in
    let front = c.as_chunks.ensures.front in
    let size = c.as_chunks.ensures.front_len in
    let m = ap (λ (k : ℕ). k / 3) c.covered-most.ensures in
    let n = c.loop-triple.triple-index in
    let l : n < c.covered-most.result / 3 = omega (arith, c.loop-triple-test.true, long ws b front size m) in
    let e = read ws b front size m n l _ c.triple-x.ensures in
    next c.loop-triple.invariant l c.triple-x.result _ e c.in-Ok.n c.in-Ok.is c.more-counts.ensures

pub returns : goal.returns
returns c =
    let ws = c.args.words.now in
    let b = c.args.budget in
    let front = c.as_chunks.ensures.front in
    let size = c.as_chunks.ensures.front_len in
    let m = ap (λ (k : ℕ). k / 3) c.covered-most.ensures in
    let n = c.loop-triple.triple-index in
    let all : c.covered-most.result / 3 ≤ n = omega (arith, c.loop-triple-test.false, c.loop-triple.auto.triple-index-end, long ws b front size m) in
    let now : State = state c.loop-triple.ds c.loop-triple.a c.loop-triple.r c.loop-triple.c c.loop-triple.vc c.loop-triple.v in
    said now c.report-2.ensures
    (ap (λ (x : End). ended (number x) c.loop-triple.steps c.loop-triple.counts now) (rw size at c.ending.ensures)
    ∙ last c.loop-triple.invariant c.requires all)
