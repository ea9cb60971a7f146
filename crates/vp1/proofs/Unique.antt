-- Only one outcome fits a call: two outcomes that meet the call's own contract, at the same arguments, agree in the number and in all that is
-- written. `Post` is what the toolchain reads off the contract in src/lib.rt: of the lifetimes, the arguments, the result and the parameters at exit.
use mathlib.Core.Path.{◌≡◌, sym, ◌∙◌, ap}
use mathlib.Core.List.{List}
use Prim.Native.Nat.{ℕ}
use contract.Lifetimes.{Lfts}
use denote.Triple.Clauses.{AtExit}
use denote.Triple.Entry.{Args}
use Rattle.terms.specs.Counts.{counts}
use Rattle.terms.specs.declared.Counts.{Counts}
use Rattle.pieces.specs.State.{State, state}
use Rattle.model.specs.Step.{Outcome}
use Rattle.model.specs.Run.{RunOutcome}
use Rattle.parts.specs.Words.{Told, PartTold}
use Rattle.vp1.specs.contracts.vp1_step as S
use Rattle.vp1.proofs.vp1_step.Reads as SR
use Rattle.vp1.specs.contracts.vp1_run as R
use Rattle.vp1.proofs.vp1_run.Reads as RR
use Rattle.vp1.specs.contracts.vp1_begin as B
use Rattle.vp1.proofs.vp1_begin.Reads as BR
use Rattle.vp1.specs.contracts.vp1_part as P
use Rattle.vp1.proofs.vp1_part.Reads as PR
use Rattle.vp1.specs.contracts.vp1_end as E
use Rattle.vp1.proofs.vp1_end.Reads as ER

-- ---- vp1_step: the six pieces and the two counts at exit, which are its last eight parameters

module _ (κs : Lfts 8) (e : AtExit S.ended κs) where
  abbrev stepped : State
  stepped =
      state e.1.1.1.0.now e.1.1.1.1.0.now e.1.1.1.1.1.0.now e.1.1.1.1.1.1.0.now e.1.1.1.1.1.1.1.0.now
      e.1.1.1.1.1.1.1.1.0.now

  abbrev counted : Counts
  counted = counts e.1.1.1.1.1.1.1.1.1.0.now e.1.1.1.1.1.1.1.1.1.1.0.now

pub one_step : (κs : Lfts 8) (args : Args S.signature κs) (n m : ℕ) (e f : AtExit S.ended κs) → SR.Post κs args n e → SR.Post κs args m f
    → (n ≡ m) × (counted κs e ≡ counted κs f) × (stepped κs e ≡ stepped κs f)
one_step κs args n m e f h k =
    let q = h ∙ sym k in (ap (λ (o : Outcome). o.number) q, ap (λ (o : Outcome). o.counts) q, ap (λ (o : Outcome). o.after) q)

-- ---- vp1_run: the six pieces, the steps and the two counts at exit, which are its last nine parameters

module _ (κs : Lfts 10) (e : AtExit R.ended κs) where
  abbrev ran : State
  ran =
      state e.1.1.0.now e.1.1.1.0.now e.1.1.1.1.0.now e.1.1.1.1.1.0.now e.1.1.1.1.1.1.0.now
      e.1.1.1.1.1.1.1.0.now

  abbrev steps : ℕ
  steps = e.1.1.1.1.1.1.1.1.0.now

  abbrev all_counted : Counts
  all_counted = counts e.1.1.1.1.1.1.1.1.1.0.now e.1.1.1.1.1.1.1.1.1.1.0.now

pub one_run : (κs : Lfts 10) (args : Args R.signature κs) (n m : ℕ) (e f : AtExit R.ended κs) → RR.Post κs args n e → RR.Post κs args m f
    → (n ≡ m) × (steps κs e ≡ steps κs f) × (all_counted κs e ≡ all_counted κs f) × (ran κs e ≡ ran κs f)
one_run κs args n m e f h k =
    let q = h ∙ sym k in (
      ap (λ (o : RunOutcome). o.number) q,
      ap (λ (o : RunOutcome). o.steps) q,
      ap (λ (o : RunOutcome). o.counts) q,
      ap (λ (o : RunOutcome). o.after) q,
    )

-- ---- vp1_begin: the run's words at exit, its last parameter

pub one_begin : (κs : Lfts 1) (args : Args B.signature κs) (n m : ℕ) (e f : AtExit B.ended κs) → BR.Post κs args n e → BR.Post κs args m f
    → (n ≡ m) × (e.1.0.now ≡ f.1.0.now)
one_begin κs args n m e f h k = let q = h ∙ sym k in (ap (λ (t : Told). t.number) q, ap (λ (t : Told). t.words) q)

-- ---- vp1_part: the six pieces, the run's words, the steps and the two counts at exit, which are its last ten parameters

module _ (κs : Lfts 11) (e : AtExit P.ended κs) where
  abbrev fed : State
  fed =
      state e.1.0.now e.1.1.0.now e.1.1.1.0.now e.1.1.1.1.0.now e.1.1.1.1.1.0.now e.1.1.1.1.1.1.0.now

  abbrev kept : List ℕ
  kept = e.1.1.1.1.1.1.1.0.now

  abbrev steps_so_far : ℕ
  steps_so_far = e.1.1.1.1.1.1.1.1.0.now

  abbrev counted_so_far : Counts
  counted_so_far = counts e.1.1.1.1.1.1.1.1.1.0.now e.1.1.1.1.1.1.1.1.1.1.0.now

pub one_part : (κs : Lfts 11) (args : Args P.signature κs) (n m : ℕ) (e f : AtExit P.ended κs) → PR.Post κs args n e → PR.Post κs args m f
    → (n ≡ m) × (steps_so_far κs e ≡ steps_so_far κs f) × (counted_so_far κs e ≡ counted_so_far κs f) × (kept κs e ≡ kept κs f) × (fed κs e ≡ fed κs f)
one_part κs args n m e f h k =
    let q = h ∙ sym k in (
      ap (λ (t : PartTold). t.run.number) q,
      ap (λ (t : PartTold). t.run.steps) q,
      ap (λ (t : PartTold). t.run.counts) q,
      ap (λ (t : PartTold). t.run.words) q,
      ap (λ (t : PartTold). t.after) q,
    )

-- ---- vp1_end: the run's words, the steps and the two counts at exit, which are its parameters

pub one_end : (κs : Lfts 4) (args : Args E.signature κs) (n m : ℕ) (e f : AtExit E.ended κs) → ER.Post κs args n e → ER.Post κs args m f
    → (n ≡ m) × (e.1.0.now ≡ f.1.0.now) × (counts e.1.1.0.now e.1.1.1.0.now ≡ counts f.1.1.0.now f.1.1.1.0.now) × (e.0.now ≡ f.0.now)
one_end κs args n m e f h k =
    let q = h ∙ sym k in (
      ap (λ (t : Told). t.number) q,
      ap (λ (t : Told). t.steps) q,
      ap (λ (t : Told). t.counts) q,
      ap (λ (t : Told). t.words) q,
    )
