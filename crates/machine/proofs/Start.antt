-- How the list call begins: a piece has another length, or the words are no whole triples, or all is right. Each length that was tested leaves its piece as it was.
use Rattle.std.proofs.Common.{◌≡◌, refl, ℕ, ◌%◌, List, length, Bool, true, false, ap, ap₂, ◌∙◌, ne_eqb}
use Rattle.terms.specs.Counts.{none}
use Rattle.terms.specs.declared.Counts.{Counts}
use Rattle.terms.specs.declared.End.{End}
use Rattle.terms.specs.declared.End.TheVariants as E
use Rattle.terms.specs.Answers.{number}
use Rattle.pieces.specs.State.{State, state, Sized, sized_of}
use Rattle.pieces.proofs.Right.{sized_if, sized_only}
use Rattle.model.specs.Run.{RunOutcome, ended, triples, run_from, run_of}
use Rattle.machine.specs.Answers.{run_outcome}
use Rattle.machine.specs.Inner.Turns.{ran_of}
use Rattle.machine.specs.declared.Ran.{Ran}

pub as_it_was : {ds ds' a a' r r' c c' vc vc' v v' : List ℕ} → ds ≡ ds' → a ≡ a' → r ≡ r' → c ≡ c' → vc ≡ vc' → v ≡ v' → state ds a r c vc v ≡ state ds' a' r' c' vc' v'
as_it_was p q r s t u = λ i. state (p i) (q i) (r i) (s i) (t i) (u i)

module _ (b : ℕ) (ws : List ℕ) {t s : State} (same : t ≡ s) where
  -- what a call reports that did nothing
  reported : {x : Ran} {k : Counts} {d : End} (e : End) → x ≡ ran_of d 0 k → d ≡ e → k ≡ none → run_outcome x t ≡ ended (number e) 0 none s
  reported {x} e p r q = ap (λ (y : Ran). run_outcome y t) (p ∙ ap₂ (λ (d : End) (k : Counts). ran_of d 0 k) r q) ∙ ap (ended (number e) 0 none) same

  pub unfit : {x : Ran} {k : Counts} {d : End} → x ≡ ran_of d 0 k → d ≡ E.Lengths → k ≡ none → (Sized s → ⊥) → run_outcome x t ≡ run_of b ws s
  unfolding run_of
  unfit p r q f = reported E.Lengths p r q ∙ go (sized_of s) refl
    where
      go : (y : Bool) → sized_of s ≡ y → ended (number E.Lengths) 0 none s ≡ run_of b ws s
      go true e = absurd (f (sized_if s e))
      go false e = rw e refl

  pub ragged : {x : Ran} {k : Counts} {d : End} → x ≡ ran_of d 0 k → d ≡ E.Ragged → k ≡ none → Sized s → (length ws % 3 ≡ 0 → ⊥) → run_outcome x t ≡ run_of b ws s
  unfolding run_of
  ragged p r q h f = reported E.Ragged p r q ∙ rw (sized_only s h, ne_eqb (length ws % 3) 0 f) refl

  pub begun : {o : RunOutcome} → o ≡ run_from b (triples ws) 0 none t → Sized s → length ws % 3 ≡ 0 → o ≡ run_of b ws s
  unfolding run_of
  begun p h e = p ∙ ap (run_from b (triples ws) 0 none) same ∙ rw (sized_only s h, e) refl
