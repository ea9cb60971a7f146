-- Only one outcome fits a call: two outcomes that meet the call's own contract, at the same arguments, are equal.
-- `Post` is what the toolchain reads off the contract in src/lib.rt: of the lifetimes, the arguments, the result and the parameters at exit.
use mathlib.Core.Path.{◌≡◌, sym, ◌∙◌, ap, ap₂}
use contract.Lifetimes.{Lfts}
use denote.Triple.Clauses.{AtExit}
use denote.Triple.Entry.{Args}
use Rattle.terms.proofs.Inverse.{number_inj}
use Rattle.terms.specs.declared.Counts.{Counts}
use Rattle.terms.specs.declared.End.{End}
use Rattle.pieces.specs.State.{State, state}
use Rattle.model.specs.Step.{Outcome}
use Rattle.model.specs.Run.{RunOutcome}
use Rattle.machine.specs.Inner.Turns.{ran_of}
use Rattle.machine.specs.declared.Stepped.{Stepped}
use Rattle.machine.specs.declared.Ran.{Ran}
use Rattle.machine.specs.contracts.step as P
use Rattle.machine.proofs.step.Reads as PR
use Rattle.machine.specs.contracts.run as R
use Rattle.machine.proofs.run.Reads as RR

-- ---- step: the six pieces at exit are its last six parameters

abbrev stepped : (κs : Lfts 6) → AtExit P.ended κs → State
stepped κs e =
    state e.1.1.1.0.now e.1.1.1.1.0.now e.1.1.1.1.1.0.now e.1.1.1.1.1.1.0.now e.1.1.1.1.1.1.1.0.now
    e.1.1.1.1.1.1.1.1.0.now

pub one_step : (κs : Lfts 6) (args : Args P.signature κs) (x y : Stepped) (e f : AtExit P.ended κs) → PR.Post κs args x e → PR.Post κs args y f
    → (x ≡ y) × (stepped κs e ≡ stepped κs f)
one_step κs args x y e f h k =
    let q = h ∙ sym k in
    let end = number_inj x.end y.end (ap (λ (o : Outcome). o.number) q) in
    (ap₂ (λ (e : End) (c : Counts). record { end = e; counts = c }) end (ap (λ (o : Outcome). o.counts) q), ap (λ (o : Outcome). o.after) q)

-- ---- run: the six pieces at exit are its last six parameters

abbrev ran : (κs : Lfts 7) → AtExit R.ended κs → State
ran κs e =
    state e.1.1.0.now e.1.1.1.0.now e.1.1.1.1.0.now e.1.1.1.1.1.0.now e.1.1.1.1.1.1.0.now e.1.1.1.1.1.1.1.0.now

pub one_run : (κs : Lfts 7) (args : Args R.signature κs) (x y : Ran) (e f : AtExit R.ended κs) → RR.Post κs args x e → RR.Post κs args y f
    → (x ≡ y) × (ran κs e ≡ ran κs f)
one_run κs args x y e f h k =
    let q = h ∙ sym k in
    let end = number_inj x.end y.end (ap (λ (o : RunOutcome). o.number) q) in (
      ap₂ (λ (e : End) (o : RunOutcome). ran_of e o.steps o.counts) end q,
      ap (λ (o : RunOutcome). o.after) q,
    )
