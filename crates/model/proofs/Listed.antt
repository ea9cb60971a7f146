-- Where a list call ends: each of 0, 1 to 4 and 7 is given exactly under its condition, and the triples before stay done.
use mathlib.Core.Path.{◌≡◌, refl, sym, ap, ◌∙◌, subst}
use Prim.Native.Nat.{ℕ, zero, suc, ◌+◌, ◌*◌, ◌/◌, ◌%◌, ◌≤◌, ◌<◌}
use native.Mathlib.Omega.{arith}
use native.Mathlib.Decide.{ℕ_discrete}
use mathlib.Core.List.{List}
use borrow.Author.Tests.{eq-eqb, ne_eqb}
use lib.ListN.{length, get_or, drop}
use Rattle.terms.specs.Counts.{plus}
use Rattle.terms.specs.declared.Counts.{Counts}
use Rattle.terms.specs.declared.Refusal.{Refusal}
use Rattle.pieces.specs.State.{State, Sized}
use Rattle.model.specs.Step.{Outcome, refusal, triple_of}
use Rattle.model.specs.Run.{triples, RunOutcome, ended, run_from, run_of}
use Rattle.model.specs.Claims.{call_at, met_at, count_at, AllDone, Comes, Finished, Spent, Stopped, ExactlyAt, Ends, finished, spent, stopped, OneByOne}
use Rattle.pieces.proofs.Right.{sized_only}
use Rattle.model.proofs.Triples.{triples_at, triples_end, opening}
use Rattle.model.proofs.Lengths.{sized_step_of}
use Rattle.terms.proofs.Inverse.{refused_inj}
use Rattle.model.proofs.Refused.{refused_after, refused_as, step_sized, refusal_range}

-- whole triples are left or none
whole_left : (n l : ℕ) → l % 3 ≡ 0 → n * 3 < l → n * 3 + 2 < l
whole_left n l h g = omega arith

module _ (budget : ℕ) (ws : List ℕ) where
  -- one turn before triple n, of which the single call in t is made
  module _ (n : ℕ) (c : Counts) (t : State) where
    turn_all : n * 3 ≡ length ws → run_from budget (triples (drop (n * 3) ws)) n c t ≡ ended 0 n c t
    unfolding run_from
    turn_all e = rw (triples_end ws (n * 3) (omega arith)) refl

    module _ (h : n * 3 + 2 < length ws) where
      turn_spent : n ≡ budget → run_from budget (triples (drop (n * 3) ws)) n c t ≡ ended 7 n c t
      unfolding run_from
      turn_spent e = rw (triples_at ws (n * 3) h, eq-eqb n budget e) refl

      module _ (z : Sized t) (f : n ≡ budget → ⊥) where
        abbrev o : Outcome
        o = call_at n ws t

        single : triple_of (get_or ws (n * 3) 0) (get_or ws (n * 3 + 1) 0) (get_or ws (n * 3 + 2) 0) t ≡ o
        single = sym (step_sized (get_or ws (n * 3) 0) (get_or ws (n * 3 + 1) 0) (get_or ws (n * 3 + 2) 0) t z)

        turn_done : o.number ≡ 0 → run_from budget (triples (drop (n * 3) ws)) n c t
            ≡ run_from budget (triples (drop (suc n * 3) ws)) (suc n) (plus c o.counts) o.after
        unfolding run_from
        turn_done e =
            let e₁ : n * 3 + 3 ≡ suc n * 3 = omega arith in
            let e₂ : n + 1 ≡ suc n = omega arith in
            rw (triples_at ws (n * 3) h, ne_eqb n budget f, single, eq-eqb o.number 0 e, e₁, e₂) refl

        turn_halt : (o.number ≡ 0 → ⊥) → run_from budget (triples (drop (n * 3) ws)) n c t ≡ ended o.number n c t
        unfolding run_from
        turn_halt e =
            rw (triples_at ws (n * 3) h, ne_eqb n budget f, single, ne_eqb o.number 0 e)
            (ap (ended o.number n c) (refused_after (get_or ws (n * 3) 0) (get_or ws (n * 3 + 1) 0) (get_or ws (n * 3 + 2) 0) t e))

  module _ (s : State) where
    met_sized : Sized s → (n : ℕ) → Sized (met_at n ws s)
    met_sized z zero = z
    met_sized z (suc n) = sized_step_of (get_or ws (n * 3) 0) (get_or ws (n * 3 + 1) 0) (get_or ws (n * 3 + 2) 0) (met_at n ws s) (met_sized z n)

    -- a run that comes to triple n stands there as one that starts there
    along : (n : ℕ) → Comes budget ws s n → run_of budget ws s ≡ run_from budget (triples (drop (n * 3) ws)) n (count_at n ws s) (met_at n ws s)
    unfolding run_of
    along zero c = rw (sized_only s c.sized, eq-eqb (length ws % 3) 0 c.whole) refl
    along (suc n) c =
        along n (record { sized = c.sized; whole = c.whole; budgeted = omega arith; listed = omega arith; done = λ i l. c.done i (omega arith) })
        ∙ turn_done n (count_at n ws s) (met_at n ws s) (omega arith) (met_sized c.sized n) (λ (e : n ≡ budget). omega arith) (c.done n (omega arith))

    module _ (n : ℕ) where
      finished_leaves : Finished budget ws s n → run_of budget ws s ≡ ended 0 n (count_at n ws s) (met_at n ws s)
      finished_leaves h = along n h.comes ∙ turn_all n (count_at n ws s) (met_at n ws s) h.all

      spent_leaves : Spent budget ws s n → run_of budget ws s ≡ ended 7 n (count_at n ws s) (met_at n ws s)
      spent_leaves h =
          along n h.comes ∙ turn_spent n (count_at n ws s) (met_at n ws s) (whole_left n (length ws) h.comes.whole h.left) h.spent

      stopped_leaves : (k : Refusal) → Stopped k budget ws s n → run_of budget ws s ≡ ended (refusal k) n (count_at n ws s) (met_at n ws s)
      stopped_leaves k h =
          along n h.comes
          ∙ turn_halt n (count_at n ws s) (met_at n ws s) (whole_left n (length ws) h.comes.whole h.left)
          (met_sized h.comes.sized n) (λ (e : n ≡ budget). omega (arith, h.due))
          (λ e. omega (arith, h.refused, refusal_range k))
          ∙ ap (λ (e : ℕ). ended e n (count_at n ws s) (met_at n ws s)) h.refused

-- ---- a list call of right lengths ends in one of the three ways

module _ (budget : ℕ) (ws : List ℕ) (s : State) where
  abbrev r : RunOutcome
  r = run_of budget ws s

  -- after n triples
  finished_after : (n : ℕ) → Finished budget ws s n → Ends budget ws s r
  finished_after n h = subst (Ends budget ws s) (sym (finished_leaves budget ws s n h)) (finished refl h)

  spent_after : (n : ℕ) → Spent budget ws s n → Ends budget ws s r
  spent_after n h = subst (Ends budget ws s) (sym (spent_leaves budget ws s n h)) (spent refl h)

  stopped_after : (k : Refusal) (n : ℕ) → Stopped k budget ws s n → Ends budget ws s r
  stopped_after k n h = subst (Ends budget ws s) (sym (stopped_leaves budget ws s n k h)) (stopped k refl h)

  -- the number that triple n gets
  abbrev number_at : ℕ → ℕ
  number_at n = (call_at n ws (met_at n ws s)).number

  done_more : (n : ℕ) → AllDone n ws s → number_at n ≡ 0 → AllDone (suc n) ws s
  done_more n h e i l = go (ℕ_discrete i n)
    where
      go : Dec (i ≡ n) → number_at i ≡ 0
      go (yes q) = subst (λ (j : ℕ). number_at j ≡ 0) (sym q) e
      go (no q) = h i (omega arith)

  -- from triple n on, with m triples left
  ends_from : (m n : ℕ) → (n + m) * 3 ≡ length ws → Comes budget ws s n → Ends budget ws s r
  ends_from zero n e c = finished_after n (record { comes = c; all = omega arith })
  ends_from (suc m) n e c = go (ℕ_discrete n budget) (ℕ_discrete (number_at n) 0) (λ d. ends_from m (suc n) (omega arith) d)
    where
      go : Dec (n ≡ budget) → Dec (number_at n ≡ 0) → (Comes budget ws s (suc n) → Ends budget ws s r) → Ends budget ws s r
      go (yes q) x f = spent_after n (record { comes = c; left = omega arith; spent = q })
      go (no q) (yes p) f =
          f (record { sized = c.sized; whole = c.whole; budgeted = omega (arith, c.budgeted); listed = omega arith; done = done_more n c.done p })
      go (no q) (no p) f =
          let k = refused_as (get_or ws (n * 3) 0) (get_or ws (n * 3 + 1) 0) (get_or ws (n * 3 + 2) 0) (met_at n ws s) (met_sized budget ws s c.sized n) p in
          stopped_after k.0 n (record { comes = c; left = omega arith; due = omega (arith, c.budgeted); refused = k.1 })

  ends : Sized s → length ws % 3 ≡ 0 → Ends budget ws s r
  ends z h =
      ends_from (length ws / 3) 0 (omega arith)
      (record { sized = z; whole = h; budgeted = omega arith; listed = omega arith; done = λ i l. absurd (omega arith) })

  -- a call that gives neither 5 nor 6 has right lengths
  started : (r.number ≡ 5 → ⊥) → (r.number ≡ 6 → ⊥) → Sized s × (length ws % 3 ≡ 0)
  started =
      opening (λ (o : RunOutcome). (o.number ≡ 5 → ⊥) → (o.number ≡ 6 → ⊥) → Sized s × (length ws % 3 ≡ 0)) budget ws s
      (λ z e f g. (z, e)) (λ z e f g. absurd (g refl)) (λ z f g. absurd (f refl))

  -- so it ends in one of them
  past : (r.number ≡ 5 → ⊥) → (r.number ≡ 6 → ⊥) → Ends budget ws s r
  past f g = let q = started f g in ends q.0 q.1

  -- 0 exactly where all is done
  pub finished_at : ExactlyAt ws s r 0 (Finished budget ws s)
  finished_at = record { only = λ e. go e (past (λ f. omega arith) (λ f. omega arith)); leaves = finished_leaves budget ws s }
    where
      go : r.number ≡ 0 → Ends budget ws s r → (n : ℕ) × Finished budget ws s n
      go e (finished q h) = (r.steps, h)
      go e (spent q h) = absurd (omega arith)
      go e (stopped k q h) = absurd (omega (arith, refusal_range k))

  -- 7 exactly where the budget is spent and the list is not finished
  pub spent_at : ExactlyAt ws s r 7 (Spent budget ws s)
  spent_at = record { only = λ e. go e (past (λ f. omega arith) (λ f. omega arith)); leaves = spent_leaves budget ws s }
    where
      go : r.number ≡ 7 → Ends budget ws s r → (n : ℕ) × Spent budget ws s n
      go e (finished q h) = absurd (omega arith)
      go e (spent q h) = (r.steps, h)
      go e (stopped k q h) = absurd (omega (arith, refusal_range k))

  -- 1 to 4 exactly where the first triple that is refused, met before the budget is spent, has that number
  pub stopped_at : (k : Refusal) → ExactlyAt ws s r (refusal k) (Stopped k budget ws s)
  stopped_at k = record {
    only = λ e. go e (past (λ f. omega (arith, refusal_range k)) (λ f. omega (arith, refusal_range k)));
    leaves = λ n h. stopped_leaves budget ws s n k h;
  }
    where
      go : r.number ≡ refusal k → Ends budget ws s r → (n : ℕ) × Stopped k budget ws s n
      go e (finished q h) = absurd (omega (arith, refusal_range k))
      go e (spent q h) = absurd (omega (arith, refusal_range k))
      go e (stopped j q h) = (r.steps, subst (λ (i : Refusal). Stopped i budget ws s r.steps) (refused_inj j k (sym q ∙ e)) h)

  -- whatever ends as o does, the call leaves what the steps of o leave, one after the other
  ends_leave : (o : RunOutcome) → Ends budget ws s o → r ≡ ended o.number o.steps (count_at o.steps ws s) (met_at o.steps ws s)
  ends_leave o = go
    where
      numbered : (e : ℕ) → o.number ≡ e → r ≡ ended e o.steps (count_at o.steps ws s) (met_at o.steps ws s)
          → r ≡ ended o.number o.steps (count_at o.steps ws s) (met_at o.steps ws s)
      numbered e q h = h ∙ ap (λ (n : ℕ). ended n o.steps (count_at o.steps ws s) (met_at o.steps ws s)) (sym q)

      go : Ends budget ws s o → r ≡ ended o.number o.steps (count_at o.steps ws s) (met_at o.steps ws s)
      go (finished q h) = numbered 0 q (finished_leaves budget ws s o.steps h)
      go (spent q h) = numbered 7 q (spent_leaves budget ws s o.steps h)
      go (stopped k q h) = numbered (refusal k) q (stopped_leaves budget ws s o.steps k h)

  -- a call of right lengths stops where document 01 says, and leaves what its steps leave, one after the other
  pub steps_leave : Sized s → length ws % 3 ≡ 0 → OneByOne budget ws s r
  steps_leave z h = record { ends = ends z h; leaves = ends_leave r (ends z h) }

  -- and no other outcome is so: one that skips triples, stops early or does nothing is not
  pub one_outcome : (o : RunOutcome) → OneByOne budget ws s o → o ≡ r
  one_outcome o h = h.leaves ∙ sym (ends_leave o h.ends)

  -- a budget that covers the list never gives 7
  pub covered : length ws ≤ 3 * budget → (run_of budget ws s).number ≡ 7 → ⊥
  covered h e = let q = spent_at.only e in omega (arith, q.1)
