-- Only one outcome fits a call: two outcomes that meet the call's own contract, at the same arguments, agree in the number and in all that is
-- written. `Post` is what the toolchain reads off the contract in src/lib.rt: of the lifetimes, the arguments, the result and the parameters at exit.
use mathlib.Core.Path.{◌≡◌, sym, ◌∙◌, ap}
use mathlib.Core.List.{List}
use Prim.Native.Nat.{ℕ}
use contract.Lifetimes.{Lfts}
use denote.Triple.Clauses.{AtExit}
use denote.Triple.Entry.{Args}
use Rattle.model.specs.Swap.{SwapOutcome, PlacesOutcome}
use Rattle.vp1_order.specs.contracts.vp1_places as P
use Rattle.vp1_order.proofs.vp1_places.Reads as PR
use Rattle.vp1_order.specs.contracts.vp1_may_swap as M
use Rattle.vp1_order.proofs.vp1_may_swap.Reads as MR

-- ---- vp1_places: its last three parameters at exit

module _ (κs : Lfts 9) (e : AtExit P.ended κs) where
  abbrev buffer : List ℕ
  buffer = e.1.1.1.1.1.1.1.1.1.0.now

  abbrev reads : ℕ
  reads = e.1.1.1.1.1.1.1.1.1.1.0.now

  abbrev writes : ℕ
  writes = e.1.1.1.1.1.1.1.1.1.1.1.0.now

pub one_places : (κs : Lfts 9) (args : Args P.signature κs) (n m : ℕ) (e f : AtExit P.ended κs) → PR.Post κs args n e → PR.Post κs args m f
    → (n ≡ m) × (buffer κs e ≡ buffer κs f) × (reads κs e ≡ reads κs f) × (writes κs e ≡ writes κs f)
one_places κs args n m e f h k =
    let q = h ∙ sym k in (
      ap (λ (o : PlacesOutcome). o.number) q,
      ap (λ (o : PlacesOutcome). o.buffer) q,
      ap (λ (o : PlacesOutcome). o.reads) q,
      ap (λ (o : PlacesOutcome). o.writes) q,
    )

-- ---- vp1_may_swap: its last three parameters at exit

module _ (κs : Lfts 9) (e : AtExit M.ended κs) where
  abbrev clash : ℕ
  clash = e.1.1.1.1.1.1.1.1.1.1.1.1.0.now

  abbrev place : ℕ
  place = e.1.1.1.1.1.1.1.1.1.1.1.1.1.0.now

  abbrev writer : ℕ
  writer = e.1.1.1.1.1.1.1.1.1.1.1.1.1.1.0.now

pub one_swap : (κs : Lfts 9) (args : Args M.signature κs) (n m : ℕ) (e f : AtExit M.ended κs) → MR.Post κs args n e → MR.Post κs args m f
    → (n ≡ m) × (clash κs e ≡ clash κs f) × (place κs e ≡ place κs f) × (writer κs e ≡ writer κs f)
one_swap κs args n m e f h k =
    let q = h ∙ sym k in (
      ap (λ (o : SwapOutcome). o.number) q,
      ap (λ (o : SwapOutcome). o.verdict.clash) q,
      ap (λ (o : SwapOutcome). o.verdict.place) q,
      ap (λ (o : SwapOutcome). o.verdict.writer) q,
    )
