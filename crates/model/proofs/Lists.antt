-- A list gives what its steps give one after the other, and what it can count is bounded by its length and the budget.
use mathlib.Core.Path.{◌≡◌, refl, sym, ap, ◌∙◌}
use Prim.Native.Nat.{ℕ, suc, ◌+◌, ◌*◌, ◌/◌, ◌%◌, ◌≤◌, ◌<◌, zero-le}
use native.Mathlib.Omega.{arith}
use mathlib.Core.Bool.{Bool, true, false, cond}
use mathlib.Core.List.{List, [], ◌∷◌, ◌++◌}
use borrow.Author.Tests.{eqb-true, eqb-false, eq-eqb, ne_eqb}
use lib.Dec.{eqb}
use lib.ListN.{length, length-append}
use Rattle.terms.specs.Counts.{none, plus, Within}
use Rattle.terms.specs.declared.Counts.{Counts}
use Rattle.terms.proofs.Sums.{none_plus, within_none, within_plus}
use Rattle.pieces.specs.State.{State, sized_of}
use Rattle.model.specs.Step.{Outcome, outcome, triple_of, step_of}
use Rattle.model.specs.Run.{Triple, triples, RunOutcome, ended, run_from, run_of}
use Rattle.model.specs.Claims.{Starts}
use Rattle.model.proofs.Laws.{turn}
use Rattle.model.proofs.Triples.{triples_join, triples_length, opening}
use Rattle.model.proofs.Refused.{refused_triple, triple_number_le}
use Rattle.model.proofs.Cells.{triple_within}

-- a run that goes on with more triples where it has ended with 0, and stands where it has stopped
abbrev pub onward : ℕ → List Triple → RunOutcome → RunOutcome
onward budget us o = cond (eqb o.number 0) (run_from budget us o.steps o.counts o.after) o

-- ---- joined lists

-- one turn: it stops where the budget is spent, goes on where the triple is done, else stops with the refusal
joined_turn : (budget n : ℕ) (c : Counts) (s : State) (us : List Triple) (o : Outcome) (v w : RunOutcome) (x y : Bool) → eqb o.number 0 ≡ y
    → v ≡ onward budget us w
    → cond x (ended 7 n c s) (cond y v (ended o.number n c o.after))
    ≡ onward budget us (cond x (ended 7 n c s) (cond y w (ended o.number n c o.after)))
joined_turn budget n c s us o v w true y e h = refl
joined_turn budget n c s us o v w false true e h = h
joined_turn budget n c s us o v w false false e h = rw e

-- a run of two lists joined is the run of the first and then, from where it ended, that of the second; it stops where the first stops,
-- with 7 too
pub joined_from : (budget : ℕ) (ts us : List Triple) (n : ℕ) (c : Counts) (s : State)
    → run_from budget (ts ++ us) n c s ≡ onward budget us (run_from budget ts n c s)
unfolding run_from
joined_from budget [] us n c s = refl
joined_from budget (t ∷ ts) us n c s =
    let o : Outcome = triple_of t.word t.side t.mask s in
    let d : Counts = plus c o.counts in
    joined_turn budget n c s us o (run_from budget (ts ++ us) (n + 1) d o.after) (run_from budget ts (n + 1) d o.after)
    (eqb n budget) (eqb o.number 0) refl (joined_from budget ts us (n + 1) d o.after)

-- the same of a list call: the second list goes on from the first one's counts and state, under the same budget
pub joined : (budget : ℕ) (ws us : List ℕ) (s : State) → length ws % 3 ≡ 0 → length us % 3 ≡ 0
    → run_of budget (ws ++ us) s ≡ onward budget (triples us) (run_of budget ws s)
unfolding run_of
joined budget ws us s h g =
    let e : length (ws ++ us) % 3 ≡ 0 = simp length-append (omega arith) in
    rw (eq-eqb (length (ws ++ us) % 3) 0 e, eq-eqb (length ws % 3) 0 h, triples_join ws us h) (go (sized_of s))
  where
    go : (b : Bool) → cond b (run_from budget (triples ws ++ triples us) 0 none s) (ended 5 0 none s)
        ≡ onward budget (triples us) (cond b (run_from budget (triples ws) 0 none s) (ended 5 0 none s))
    go true = joined_from budget (triples ws) (triples us) 0 none s
    go false = refl

module _ (budget : ℕ) (ws us : List ℕ) (s : State) (h : length ws % 3 ≡ 0) (g : length us % 3 ≡ 0) where
  -- where the first list is done, the joined one goes on
  pub joined_done : (run_of budget ws s).number ≡ 0
      → let o = run_of budget ws s in run_of budget (ws ++ us) s ≡ run_from budget (triples us) o.steps o.counts o.after
  joined_done e = joined budget ws us s h g ∙ rw (onward, eq-eqb (run_of budget ws s).number 0 e)

  -- where it has stopped, the joined one has stopped there
  pub joined_stopped : ((run_of budget ws s).number ≡ 0 → ⊥) → run_of budget (ws ++ us) s ≡ run_of budget ws s
  joined_stopped e = joined budget ws us s h g ∙ rw (onward, ne_eqb (run_of budget ws s).number 0 e)

-- what a run of one triple comes to: done, it is counted; refused, it counts nothing
abbrev turned : Outcome → Bool → RunOutcome
turned o y = cond y (ended 0 1 (plus none o.counts) o.after) (ended o.number 0 none o.after)

-- without the steps
abbrev bare : RunOutcome → Outcome
bare r = outcome r.number r.counts r.after

one_turn : (o : Outcome) (y : Bool) → (y ≡ true → o.number ≡ 0) → (y ≡ false → o.counts ≡ none) → bare (turned o y) ≡ o
one_turn o true e f = λ i. outcome (sym (e refl) i) (none_plus o.counts i) o.after
one_turn o false e f = λ i. outcome o.number (sym (f refl) i) o.after

-- a list of one triple, under a budget of at least one step, gives what the single call gives
pub one_triple : (budget word side mask : ℕ) (s : State) → 0 < budget
    → let r = run_of budget (word ∷ side ∷ mask ∷ []) s in outcome r.number r.counts r.after ≡ step_of word side mask s
unfolding run_of run_from triples step_of
one_triple budget word side mask s h = rw (ne_eqb 0 budget (λ (e : 0 ≡ budget). omega arith)) (go (sized_of s))
  where
    go : (b : Bool) → let o = triple_of word side mask s in bare (cond b (turned o (eqb o.number 0)) (ended 5 0 none s)) ≡ cond b o (outcome 5 none s)
    go true =
        let o : Outcome = triple_of word side mask s in
        one_turn o (eqb o.number 0) (eqb-true o.number 0)
        (λ e. ap (λ (z : Outcome). z.counts) (refused_triple word side mask s (eqb-false o.number 0 e)))
    go false = refl

-- ---- bounds

-- what a run that has m triples to do after n steps comes to
pub record Bounds (budget n m : ℕ) (o : RunOutcome) : Type 0 where
  -- no more steps than the budget
  pub budgeted : o.steps ≤ budget
  -- no more than the triples
  pub listed : o.steps ≤ n + m
  -- no step counts more than it may
  pub counted : Within o.steps o.counts

-- one that stops before the first of them
bounds_here : (budget n m e : ℕ) (c : Counts) (s : State) → n ≤ budget → Within n c → Bounds budget n m (ended e n c s)
bounds_here budget n m e c s l w = record { budgeted = l; listed = omega arith; counted = w }

-- a triple done goes from the list to the steps
bounds_more : (budget n m : ℕ) (o : RunOutcome) → Bounds budget (n + 1) m o → Bounds budget n (suc m) o
bounds_more budget n m o b = record { budgeted = b.budgeted; listed = omega (arith, b.listed); counted = b.counted }

-- a run under way keeps within them
pub bounds_from : (budget : ℕ) (ts : List Triple) (n : ℕ) (c : Counts) (s : State) → n ≤ budget → Within n c
    → Bounds budget n (length ts) (run_from budget ts n c s)
unfolding run_from
bounds_from budget [] n c s l w = bounds_here budget n 0 0 c s l w
bounds_from budget (t ∷ ts) n c s l w =
    let o : Outcome = triple_of t.word t.side t.mask s in
    let d : Counts = plus c o.counts in
    let x : Within (n + 1) d = within_plus n 1 c o.counts w (triple_within t.word t.side t.mask s) in
    turn (Bounds budget n (length (t ∷ ts))) budget n o.number
    (ended 7 n c s) (run_from budget ts (n + 1) d o.after) (ended o.number n c o.after)
    (λ e. bounds_here budget n (length (t ∷ ts)) 7 c s l w)
    (λ e z. bounds_more budget n (length ts) (run_from budget ts (n + 1) d o.after) (bounds_from budget ts (n + 1) d o.after (omega arith) x))
    (λ e z. bounds_here budget n (length (t ∷ ts)) o.number c o.after l w)

-- the counts of a list call, whatever its end: 5 and 6 have done nothing
pub bounds : (budget : ℕ) (ws : List ℕ) (s : State) → Bounds budget 0 (length ws / 3) (run_of budget ws s)
bounds budget ws s =
    rw (← triples_length ws)
    (opening (Bounds budget 0 (length (triples ws))) budget ws s
    (λ z e. bounds_from budget (triples ws) 0 none s zero-le (within_none 0))
    (λ z e. bounds_here budget 0 (length (triples ws)) 6 none s zero-le (within_none 0))
    (λ z. bounds_here budget 0 (length (triples ws)) 5 none s zero-le (within_none 0)))

-- no list call does more steps than its budget
pub steps_budget : (budget : ℕ) (ws : List ℕ) (s : State) → (run_of budget ws s).steps ≤ budget
steps_budget budget ws s = (bounds budget ws s).budgeted

-- nor more than its triples
pub steps_length : (budget : ℕ) (ws : List ℕ) (s : State) → (run_of budget ws s).steps * 3 ≤ length ws
steps_length budget ws s = omega (arith, (bounds budget ws s).listed)

-- nor counts more than its steps may: sixteen of either for each
pub counts_steps : (budget : ℕ) (ws : List ℕ) (s : State) → Within (run_of budget ws s).steps (run_of budget ws s).counts
counts_steps budget ws s = (bounds budget ws s).counted

-- ---- 5 and 6

-- a run under way gives neither 5 nor 6
from_number : (budget : ℕ) (ts : List Triple) (n : ℕ) (c : Counts) (s : State)
    → let m = (run_from budget ts n c s).number in (m ≡ 5 → ⊥) × (m ≡ 6 → ⊥)
unfolding run_from
from_number budget [] n c s = omega arith
from_number budget (t ∷ ts) n c s =
    let o : Outcome = triple_of t.word t.side t.mask s in
    let d : o.number ≤ 4 = triple_number_le t.word t.side t.mask s in
    turn (λ (r : RunOutcome). (r.number ≡ 5 → ⊥) × (r.number ≡ 6 → ⊥)) budget n o.number
    (ended 7 n c s) (run_from budget ts (n + 1) (plus c o.counts) o.after) (ended o.number n c o.after)
    (λ e. omega arith) (λ e z. from_number budget ts (n + 1) (plus c o.counts) o.after) (λ e z. omega arith)

-- document 01's order at the start of a list call
pub starts : (budget : ℕ) (ws : List ℕ) (s : State) → Starts ws s (run_of budget ws s).number
starts budget ws s =
    opening (λ (r : RunOutcome). Starts ws s r.number) budget ws s
    (λ z e. record { five = ((λ m. absurd (f.0 m)), λ h. absurd (h z)); six = ((λ m. absurd (f.1 m)), λ h. absurd (h.1 e)) })
    (λ z e. record { five = ((λ m. absurd (omega arith)), λ h. absurd (h z)); six = ((λ m. (z, e)), λ h. refl) })
    (λ z. record { five = ((λ m. z), λ h. refl); six = ((λ m. absurd (omega arith)), λ h. absurd (z h.0)) })
  where
    f : ((run_from budget (triples ws) 0 none s).number ≡ 5 → ⊥) × ((run_from budget (triples ws) 0 none s).number ≡ 6 → ⊥)
    f = from_number budget (triples ws) 0 none s
