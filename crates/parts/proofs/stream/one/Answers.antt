-- A stretch of one triple, with nothing behind it.
use Rattle.std.proofs.Common.{◌≡◌, ℕ, ◌+◌, ◌-◌, ◌<◌, List, length, drop, length-drop, refl, sym, ap, ◌∙◌, arith}
use Rattle.terms.specs.Counts.{plus}
use Rattle.terms.specs.Inner.Runs.{most}
use Rattle.terms.proofs.Sums.{within_le}
use Rattle.pieces.specs.State.{State, state}
use Rattle.machine.specs.Answers.{run_outcome}
use Rattle.machine.specs.Inner.Turns.{ran_of}
use Rattle.machine.specs.declared.Ran.{Ran}
use Rattle.model.specs.Run.{run_of}
use Rattle.parts.proofs.Stretch.{no_more, stretch, still_budgeted, still_counted}
use Rattle.parts.proofs.stream.one.Goals as goal

pub added-requires : goal.added-requires
added-requires c =
    let s : State = state c.args.ds.now c.args.a.now c.args.r.now c.args.c.now c.args.vc.now c.args.v.now in
    let t : State = state c.run-x.new.ds c.run-x.new.a c.run-x.new.r c.run-x.new.c c.run-x.new.vc c.run-x.new.v in
    let twelve : length c.args.bytes ≡ 12 = c.well_formed.0.1.0.1 in
    let lent = c.run-x.ensures ∙ ap (λ (ws : List ℕ). run_of (c.args.budget - c.args.from.steps) ws s) c.triple-words.ensures in
    let budgeted = still_budgeted c.args.budget c.args.bytes 0 3 c.args.from s c.requires.0 (omega (arith, twelve)) refl c.requires.1 c.run-x.result t lent in
    let fits : c.args.from.steps + c.run-x.result.steps < most = omega (arith, budgeted, c.ranges.budget.fits) in
    (fits, within_le (c.args.from.steps + c.run-x.result.steps) most _ (omega arith) (still_counted c.args.budget c.args.bytes 0 3 c.args.from s c.requires.0 (omega (arith, twelve)) refl c.requires.1 c.run-x.result t lent c.requires.2))

pub returns : goal.returns
returns c =
    let s : State = state c.args.ds.now c.args.a.now c.args.r.now c.args.c.now c.args.vc.now c.args.v.now in
    let t : State = state c.run-x.new.ds c.run-x.new.a c.run-x.new.r c.run-x.new.c c.run-x.new.vc c.run-x.new.v in
    let from = c.args.from in
    let twelve : length c.args.bytes ≡ 12 = c.well_formed.0.1.0.1 in
    let lent = c.run-x.ensures ∙ ap (λ (ws : List ℕ). run_of (c.args.budget - from.steps) ws s) c.triple-words.ensures in
    ap (λ (x : Ran). run_outcome x t) c.added.ensures
    ∙ sym (no_more c.args.budget (drop 12 c.args.bytes) (run_outcome (ran_of c.run-x.result.end (from.steps + c.run-x.result.steps) (plus from.counts c.run-x.result.counts)) t) (simp length-drop (omega (arith, twelve))))
    ∙ stretch c.args.budget c.args.bytes 0 3 from s c.requires.0 (omega (arith, twelve)) refl c.requires.1 c.run-x.result t lent c.requires.3
