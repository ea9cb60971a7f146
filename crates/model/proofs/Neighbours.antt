-- Demand 3 in a list: two neighbouring triples that are free where they are met may be exchanged, and the whole outcome stays.
use mathlib.Core.Path.{◌≡◌, refl, sym, ap, ap₂, ◌∙◌}
use Prim.Native.Nat.{ℕ, ◌+◌, ◌%◌, ◌≤◌, ◌<◌, zero-le}
use native.Mathlib.Omega.{arith}
use native.Mathlib.Decide.{ℕ_discrete}
use mathlib.Core.Bool.{Bool, true, false, cond}
use mathlib.Core.List.{List, [], ◌∷◌, ◌++◌}
use borrow.Author.Tests.{eqb-true, eq-eqb, ne_eqb}
use lib.Dec.{eqb}
use lib.ListN.{length, get_or, length-append}
use Rattle.terms.specs.Counts.{none, plus}
use Rattle.terms.specs.declared.Counts.{Counts}
use Rattle.terms.proofs.Sums.{plus_swap, within_none}
use Rattle.words.specs.Fields.{fields_of}
use Rattle.words.specs.Table.{decode_of, decode_at, rows}
use Rattle.terms.specs.declared.Half.TheVariants.{Low}
use Rattle.words.specs.Address as A
use Rattle.words.specs.Insn.{Insn}
use Rattle.words.specs.Insn as N
use Rattle.words.specs.Decoded as D
use Rattle.pieces.specs.State.{State, state, Sized, sized_of}
use Rattle.pieces.specs.Place.{xlat}
use Rattle.model.specs.Step.{stepped, counted, triple_of}
use Rattle.model.specs.Run.{Triple, triples, RunOutcome, ended, run_from, run_of}
use Rattle.model.specs.Number.{reads_of, writes_of}
use Rattle.model.specs.Swap.{verdict_of}
use Rattle.model.specs.Claims.{Free, MetFree}
use Rattle.model.proofs.Commute.{same, later, earlier}
use Rattle.model.proofs.Triples.{triples_cons, triples_join}
use Rattle.model.proofs.Lists.{onward, joined_from, bounds_from}
use Rattle.pieces.proofs.Right.{sized_only}
use Rattle.model.proofs.Verdict.{free_if}

-- a budget that ends before a triple
spent : (budget : ℕ) (t : Triple) (ts : List Triple) (n : ℕ) (c : Counts) (s : State) → n ≡ budget → run_from budget (t ∷ ts) n c s ≡ ended 7 n c s
unfolding run_from
spent budget t ts n c s e = rw (eq-eqb n budget e) refl

-- a triple is this instruction
abbrev Means : Triple → Insn → Type 0
Means t i = decode_of t.word t.side t.mask ≡ D.Insn i

-- two triples, done one after the other
both_done : (budget : ℕ) (t u : Triple) (i j : Insn) (rest : List Triple) → Means t i → Means u j
    → (n : ℕ) (c : Counts) (s : State) → (n ≡ budget → ⊥) → (n + 1 ≡ budget → ⊥)
    → run_from budget (t ∷ u ∷ rest) n c s
    ≡ run_from budget rest (n + 1 + 1) (plus (plus c (counted i s)) (counted j (stepped i s))) (stepped j (stepped i s))
unfolding run_from triple_of
both_done budget t u i j rest d e n c s f g = rw (d, e, ne_eqb n budget f, ne_eqb (n + 1) budget g) refl

-- what is asked of two instructions where the run of what stands before them has ended with 0 and not used the whole budget
abbrev Met : ℕ → Insn → Insn → RunOutcome → Type 0
Met budget i j o = o.number ≡ 0 → o.steps < budget → MetFree budget i j o

module _ (budget : ℕ) (t u : Triple) (i j : Insn) (rest : List Triple) (d : Means t i) (e : Means u j) where
  abbrev one : List Triple
  one = t ∷ u ∷ rest

  abbrev other : List Triple
  other = u ∷ t ∷ rest

  -- from n steps on, that have counted c, in the state s, where the budget is not spent
  neighbours_met : (n : ℕ) (c : Counts) (s : State) → (n ≡ budget → ⊥) → Free xlat i j s → (n + 1 ≡ budget → ⊥)
      → run_from budget one n c s ≡ run_from budget other n c s
  neighbours_met n c s f h g =
      both_done budget t u i j rest d e n c s f g
      ∙ ap₂ (run_from budget rest (n + 1 + 1)) sums (same i j s h)
      ∙ sym (both_done budget u t j i rest e d n c s f g)
    where
      sums : plus (plus c (counted i s)) (counted j (stepped i s)) ≡ plus (plus c (counted j s)) (counted i (stepped j s))
      sums = rw (later i j s h, earlier i j s h) (plus_swap c (counted i s) (counted j s))

  -- from the end o of a run. Where it has spent the budget, both orders end there with 7
  neighbours_onward : (o : RunOutcome) → o.steps ≤ budget → Met budget i j o → onward budget one o ≡ onward budget other o
  neighbours_onward o l h = go (eqb o.number 0) (eqb-true o.number 0) (ℕ_discrete o.steps budget)
    where
      go : (b : Bool) → (b ≡ true → o.number ≡ 0) → Dec (o.steps ≡ budget)
          → cond b (run_from budget one o.steps o.counts o.after) o ≡ cond b (run_from budget other o.steps o.counts o.after) o
      go true p (yes q) =
          spent budget t (u ∷ rest) o.steps o.counts o.after q ∙ sym (spent budget u (t ∷ rest) o.steps o.counts o.after q)
      go true p (no q) = let m = h (p refl) (omega arith) in neighbours_met o.steps o.counts o.after q m.free m.budgeted
      go false p x = refl

  -- behind any triples
  neighbours_run : (before : List Triple) (s : State) → Met budget i j (run_from budget before 0 none s)
      → run_from budget (before ++ one) 0 none s ≡ run_from budget (before ++ other) 0 none s
  neighbours_run before s m =
      joined_from budget before one 0 none s
      ∙ neighbours_onward (run_from budget before 0 none s) (bounds_from budget before 0 none s zero-le (within_none 0)).budgeted m
      ∙ sym (joined_from budget before other 0 none s)

-- the list call, whatever stands before and after them: number, steps, counts and state
pub neighbours : (budget w side mask w' side' mask' : ℕ) (i j : Insn) (rest : List ℕ)
    → decode_of w side mask ≡ D.Insn i → decode_of w' side' mask' ≡ D.Insn j
    → (before : List ℕ) (s : State) → length before % 3 ≡ 0 → Met budget i j (run_of budget before s)
    → run_of budget (before ++ w ∷ side ∷ mask ∷ w' ∷ side' ∷ mask' ∷ rest) s
    ≡ run_of budget (before ++ w' ∷ side' ∷ mask' ∷ w ∷ side ∷ mask ∷ rest) s
unfolding run_of
neighbours budget w side mask w' side' mask' i j rest d d' before s h =
    rw (eq-eqb (length before % 3) 0 h, length-append, length-append, triples_join, triples_join)
    (simp triples_cons (go (sized_of s) (eqb ((length before + length (w ∷ side ∷ mask ∷ w' ∷ side' ∷ mask' ∷ rest)) % 3) 0)))
  where
    t : Triple
    t = record { word = w; side = side; mask = mask }

    u : Triple
    u = record { word = w'; side = side'; mask = mask' }

    go : (b c : Bool) → Met budget i j (cond b (run_from budget (triples before) 0 none s) (ended 5 0 none s))
        → cond b (cond c (run_from budget (triples before ++ t ∷ u ∷ triples rest) 0 none s) (ended 6 0 none s)) (ended 5 0 none s)
        ≡ cond b (cond c (run_from budget (triples before ++ u ∷ t ∷ triples rest) 0 none s) (ended 6 0 none s)) (ended 5 0 none s)
    go true true m = neighbours_run budget t u i j (triples rest) d d' (triples before) s m
    go true false m = refl
    go false c m = refl

-- why the budget must not end between them: two setlos of different registers, exchanged under a budget of one step, leave different states
pub budget_between : (ds a r c vc v : List ℕ) → let s = state ds (0 ∷ 0 ∷ a) r c vc v in
    Sized s → run_of 1 (0xcc000001 ∷ 0 ∷ 0 ∷ 0xcc080001 ∷ 0 ∷ 0 ∷ []) s ≡ run_of 1 (0xcc080001 ∷ 0 ∷ 0 ∷ 0xcc000001 ∷ 0 ∷ 0 ∷ []) s → ⊥
unfolding run_of run_from triples triple_of decode_of decode_at rows fields_of stepped
budget_between ds a r c vc v z e =
    let s = state ds (0 ∷ 0 ∷ a) r c vc v in
    omega (arith, ap (λ (o : RunOutcome). get_or o.after.a 0 0) (rw (sized_only s z) at e))

-- though they are free in every state
pub between_free : (s : State)
    → (i : Insn) × (j : Insn) × (decode_of 0xcc000001 0 0 ≡ D.Insn i) × (decode_of 0xcc080001 0 0 ≡ D.Insn j) × Free xlat i j s
unfolding decode_of decode_at rows fields_of verdict_of writes_of reads_of
between_free s =
    let i = N.Address (A.Set (record { half = Low; dst = 0; imm = 1 })) in
    let j = N.Address (A.Set (record { half = Low; dst = 1; imm = 1 })) in
    (i, j, refl, refl, free_if i j s refl)
