-- What a function of the two units makes of the whole state is what its word's row of the table says; and that is the model's outcome.
use mathlib.Core.Path.{◌≡◌, refl, ap, ◌∙◌}
use Prim.Native.Nat.{ℕ}
use Rattle.words.specs.Table.{decode_of}
use Rattle.words.specs.Address.{Address}
use Rattle.words.specs.Vector.{Vector}
use Rattle.terms.specs.Inner.Runs.{amount}
use Rattle.terms.specs.declared.Counts.{Counts}
use Rattle.std.specs.Prelude.{Ok}
use Rattle.std.specs.declared.result.Result.{Result}
use Rattle.terms.specs.declared.Counted.{Counted}
use Rattle.terms.specs.declared.Refusal.{Refusal}
use Rattle.terms.specs.declared.Counted.TheVariants.{Nothing}
use Rattle.words.specs.Insn.{Insn}
use Rattle.words.specs.Insn as N
use Rattle.words.specs.Decoded as D
use Rattle.address.specs.Inner.Effect.{Pieces, five, addressed, counted_in}
use Rattle.address.specs.Inner.Effect as A
use Rattle.address.proofs.Closed as address
use Rattle.ports.specs.Inner.Ports as P
use Rattle.vector.specs.Inner.Effect as U
use Rattle.vector.proofs.Closed as vector
use Rattle.pieces.specs.State.{State, state}
use Rattle.model.specs.Step.{stepped, counted, triple_of}
use Rattle.model.specs.Step as M
use Rattle.units.specs.Inner.Answers.{Answered, answered, counted_by, by_insn, by_decoded, answered_of, answer_outcome}

-- more pieces than a function is lent: g puts those that it has among the five
widen : (i : Address) (p q : Pieces) (g : Pieces → Pieces) → counted_in i p.a ≡ counted_in i q.a → g (addressed i p) ≡ addressed i q
    → (z : A.Result) → z ≡ A.result_of i p → A.result_from z.counted (g z.after) ≡ A.result_of i q
unfolding A.result_of
widen i p q g h k z f = ap (λ (z : A.Result). A.result_from z.counted (g z.after)) f ∙ rw (h, k) refl

module _ (s : State) where
  pub idling : answered (Ok Nothing) s ≡ by_insn N.Nop s
  unfolding stepped
  idling = refl

  pub vectoring : (i : Vector) {z : P.Result} → z ≡ U.result_of i (P.vectors s.vc s.v)
      → answered (Ok z.counted) (state s.ds s.a s.r s.c z.after.vc z.after.v) ≡ by_insn (N.Vector i) s
  unfolding U.result_of
  vectoring i f =
      ap (λ (z : P.Result). answered (Ok z.counted) (state s.ds s.a s.r s.c z.after.vc z.after.v)) f
      ∙ rw (vector.closed i s) refl

  pub addressing : (g : Pieces → Pieces) (p : Pieces) (i : Address) {z : A.Result} → z ≡ A.result_of i p
      → counted_in i p.a ≡ counted_in i s.a → g (addressed i p) ≡ addressed i (five s.ds s.a s.r s.c s.v)
      → answered (Ok z.counted) (state (g z.after).ds (g z.after).a (g z.after).r (g z.after).c s.vc (g z.after).v) ≡ by_insn (N.Address i) s
  unfolding A.result_of
  addressing g p i {z} f k l =
      ap (λ (z : A.Result). answered (Ok z.counted) (state z.after.ds z.after.a z.after.r z.after.c s.vc z.after.v)) (widen i p _ g k l z f)
      ∙ rw (address.closed i s) refl

  -- what a step counts is what the model counts
  counting : (i : Insn) → amount (counted_by i s) ≡ counted i s
  unfolding counted
  counting (N.Address i) = rw (address.counting i s) refl
  counting (N.Vector i) = rw (vector.counting i s) refl
  counting N.Nop = refl

  decoded_outcome : (d : D.Decoded) → answer_outcome (by_decoded d s).answer (by_decoded d s).after ≡ M.by_decoded d s
  decoded_outcome (D.Insn i) = ap (λ (c : Counts). M.outcome 0 c (stepped i s)) (counting i)
  decoded_outcome (D.Refused k) = refl

module _ (word side mask : ℕ) (s : State) where
  pub by_row : (d : D.Decoded) → d ≡ decode_of word side mask → by_decoded d s ≡ answered_of word side mask s
  unfolding answered_of
  by_row d e = rw e refl

  -- the outcome of a triple's answer
  pub outcome_of_lem : {x : Result Counted Refusal} {t : State} → answered x t ≡ answered_of word side mask s → answer_outcome x t ≡ triple_of word side mask s
  unfolding answered_of triple_of
  outcome_of_lem e = ap (λ (a : Answered). answer_outcome a.answer a.after) e ∙ decoded_outcome s (decode_of word side mask)
