-- Only one outcome fits a call of may_swap or of places: two outcomes that meet the function's own contract, at the same arguments, are equal.
-- `Post` is what the toolchain reads off the contract in src/lib.rt: of the lifetimes, the arguments, the result and the parameters at exit.
use mathlib.Core.Path.{◌≡◌, refl, sym, ◌∙◌, ap, ap₂}
use mathlib.Core.List.{List, [], ◌∷◌}
use Prim.Native.Nat.{ℕ}
use lib.ListN.{get_or}
use contract.Lifetimes.{Lfts}
use denote.Triple.Clauses.{AtExit}
use denote.Triple.Entry.{Args}
use Rattle.terms.proofs.Inverse.{number_inj}
use Rattle.terms.specs.declared.End.{End}
use Rattle.model.specs.Swap as S
use Rattle.model.specs.Swap.{SwapOutcome, PlacesOutcome}
use Rattle.swap.specs.Answers.{told}
use Rattle.std.specs.Prelude.{Some, None}
use Rattle.std.specs.declared.option.Option.{Option}
use Rattle.swap.specs.declared.Clash.{Clash}
use Rattle.swap.specs.declared.Swap.{Swap}
use Rattle.swap.specs.declared.Listed.{Listed}
use Rattle.swap.specs.contracts.may_swap as M
use Rattle.swap.proofs.may_swap.Reads as MR
use Rattle.swap.specs.contracts.places as P
use Rattle.swap.proofs.places.Reads as PR

untold : S.Verdict → Option Clash
untold v = get_or (None ∷ Some (record { place = v.place; writer = v.writer }) ∷ []) v.clash None

back : (x : Option Clash) → untold (told x) ≡ x
unfolding untold
back None = refl
back (Some x) = refl

told_inj : (v u : Option Clash) → told v ≡ told u → v ≡ u
told_inj v u h = sym (back v) ∙ ap untold h ∙ back u

-- ---- may_swap: the six pieces are only read, so the answer is all that there is

pub one_swap : (κs : Lfts 6) (args : Args M.signature κs) (x y : Swap) (e f : AtExit M.ended κs) → MR.Post κs args x e → MR.Post κs args y f → x ≡ y
one_swap κs args x y e f h k =
    let q = h ∙ sym k in
    ap₂ {C = Swap} (λ z v. record { end = z; clash = v }) (number_inj x.end y.end (ap (λ (o : SwapOutcome). o.number) q))
    (told_inj x.clash y.clash (ap (λ (o : SwapOutcome). o.verdict) q))

-- ---- places: the answer, and the buffer at exit, which is the last of the ten parameters

abbrev buffer : (κs : Lfts 7) → AtExit P.ended κs → List ℕ
buffer κs e = e.1.1.1.1.1.1.1.1.1.0.now

pub one_list : (κs : Lfts 7) (args : Args P.signature κs) (x y : Listed) (e f : AtExit P.ended κs) → PR.Post κs args x e → PR.Post κs args y f
    → (x ≡ y) × (buffer κs e ≡ buffer κs f)
one_list κs args x y e f h k =
    let q = h ∙ sym k in
    let z = number_inj x.end y.end (ap (λ (o : PlacesOutcome). o.number) q) in (
      ap₂ {C = Listed} (λ (n : End) (o : PlacesOutcome). record { end = n; reads = o.reads; writes = o.writes }) z q,
      ap (λ (o : PlacesOutcome). o.buffer) q,
    )
