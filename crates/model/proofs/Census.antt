-- What a census comes to: the sixteen figures add up to the run's cell accesses, the twelve to its loads and stores; a list joined to another gives the sum
-- of both.
use mathlib.Core.Path.{◌≡◌, refl, sym, ap, ap₂, ◌∙◌}
use Prim.Native.Nat.{ℕ, zero, suc, ◌+◌, ◌*◌, ◌-◌, ◌%◌, ◌≤◌, ◌<◌, zero-le}
use native.Mathlib.Omega.{arith}
use mathlib.Core.Bool.{Bool, true, false, cond}
use mathlib.Core.List.{List, [], ◌∷◌, ◌++◌, map}
use borrow.Author.Tests.{eqb-true, eqb-false, eq-eqb, ne_eqb}
use lib.Dec.{eqb}
use lib.ListN.{length, get_or, drop, length-append}
use Rattle.terms.specs.Counts.{none, plus}
use Rattle.terms.specs.declared.Counts.{Counts}
use Rattle.terms.specs.declared.Refusal.TheVariants as R
use Rattle.terms.specs.declared.Way.{Way}
use Rattle.terms.specs.declared.Way.TheVariants.{Horizontal, Vertical, Scalar}
use Rattle.banks.specs.Bank.{pair_of}
use Rattle.banks.specs.Line.{from, total}
use Rattle.banks.proofs.PerBank.{map_eq, spike, adds_up, pair_lt}
use Rattle.words.specs.Table.{decode_of}
use Rattle.words.specs.Insn.{Insn}
use Rattle.words.specs.Decoded.{Decoded}
use Rattle.words.specs.Decoded as D
use Rattle.pieces.specs.State.{State, Sized, sized_of}
use Rattle.pieces.specs.Place.{Addr, xlat}
use Rattle.pieces.proofs.Right.{sized_if, sized_only}
use Rattle.model.specs.Prog.{ret, Access, idle, load, store, Done, cells, done}
use Rattle.model.specs.Step.{did, stepped, counted, by_decoded, triple_of, Outcome}
use Rattle.model.specs.Run.{Triple, triples, RunOutcome, ended, run_from, run_of}
use Rattle.model.specs.Census.{Met, met_by, met_from, met_of, accessed, in_bank, way_number, code_number, figure_of, by_way, sum_over, bank_figures, way_figures}
use Rattle.model.proofs.Laws.{run_bind}
use Rattle.model.proofs.Triples.{triples_join}
use Rattle.model.proofs.Lengths.{sized_run}
use Rattle.model.proofs.Lists.{steps_budget}

-- ---- sums in either order

zeros : (ks : List ℕ) → total (map (λ k. 0) ks) ≡ 0
zeros [] = refl
zeros (k ∷ ks) = rw (zeros ks) refl

-- of figures over the steps, and of steps over the figures
swapped : (f : ℕ → Access → ℕ) (g : Access → ℕ) (ks : List ℕ) → ((x : Access) → total (map (λ k. f k x) ks) ≡ g x) → (ms : List Met)
    → total (map (λ k. sum_over (f k) ms) ks) ≡ sum_over g ms
swapped f g ks h [] = zeros ks
swapped f g ks h (m ∷ ms) =
    both (λ k. f k (accessed m)) (λ k. sum_over (f k) ms) ks ∙ ap₂ (λ (x y : ℕ). x + y) (h (accessed m)) (swapped f g ks h ms)
  where
    both : (u v : ℕ → ℕ) (ls : List ℕ) → total (map (λ k. u k + v k) ls) ≡ total (map u ls) + total (map v ls)
    both u v [] = refl
    both u v (l ∷ ls) = rw (both u v ls) (omega arith)

-- ---- the figures of one access

-- the sixteen add up to its distinct pairs
banks_are : (x : Access) → total (map (λ k. in_bank k x) (from 0 16)) ≡ cells x
banks_are idle = refl
banks_are (load way c bs) = adds_up (λ (b : Addr). pair_of b.stride b.addr) (λ b. pair_lt b.stride b.addr) bs
banks_are (store way c bs) = adds_up (λ (b : Addr). pair_of b.stride b.addr) (λ b. pair_lt b.stride b.addr) bs

-- each way under each code has its figure, one of the twelve
pub figure_lt : (way : Way) (c : ℕ) → figure_of way c < 12
figure_lt way c = go way c
  where
    code : (k : ℕ) → code_number k ≤ 3
    code zero = omega arith
    code (suc zero) = omega arith
    code (suc (suc zero)) = omega arith
    code (suc (suc (suc k))) = omega arith

    go : (w : Way) (k : ℕ) → code_number k * 3 + way_number w < 12
    go Horizontal k = omega (arith, code k)
    go Vertical k = omega (arith, code k)
    go Scalar k = omega (arith, code k)

-- 1 of a load or a store, 0 of another step
abbrev pub made : Access → ℕ
made idle = 0
made (load way c bs) = 1
made (store way c bs) = 1

one_figure : (way : Way) (c : ℕ) → total (map (λ k. cond (eqb (figure_of way c) k) 1 0) (from 0 12)) ≡ 1
one_figure way c =
    ap total (map_eq (λ k. cond (eqb (figure_of way c) k) 1 0) (λ k. 0 + cond (eqb (figure_of way c) k) 1 0) (λ k. omega arith) (from 0 12))
    ∙ spike (λ k. 0) (figure_of way c) 1 0 12 zero-le (figure_lt way c)

ways_are : (x : Access) → total (map (λ k. by_way k x) (from 0 12)) ≡ made x
ways_are idle = refl
ways_are (load way c bs) = one_figure way c
ways_are (store way c bs) = one_figure way c

-- ---- the run's counts are sums over the steps done

counts_access : (i : Insn) (s : State) → (counted i s).accesses ≡ cells (accessed (record { insn = i; before = s }))
unfolding counted
counts_access i s = ap (λ (d : Done). d.counts.accesses) (run_bind xlat (did i) (λ d. ret (done d)) s)

-- what a run under way comes to, by the steps that it is still to do
record Meets (n : ℕ) (c : Counts) (o : RunOutcome) (ms : List Met) : Type 0 where
  pub steps : n + length ms ≡ o.steps
  pub accesses : c.accesses + sum_over cells ms ≡ o.counts.accesses

nothing_met : (n e : ℕ) (c : Counts) (s : State) → Meets n c (ended e n c s) []
nothing_met n e c s = record { steps = omega arith; accesses = omega arith }

met_turn : (n : ℕ) (c : Counts) (s : State) (x : Bool) (d : Decoded) (f : Counts → State → RunOutcome) (g : State → List Met)
    → ((e : Counts) (z : State) → Meets (n + 1) e (f e z) (g z))
    → let o : Outcome = by_decoded d s in
    Meets n c (cond x (ended 7 n c s) (cond (eqb o.number 0) (f (plus c o.counts) o.after) (ended o.number n c o.after))) (cond x [] (met_by d s g))
met_turn n c s true d f g h = nothing_met n 7 c s
met_turn n c s false (D.Insn i) f g h =
    let q = h (plus c (counted i s)) (stepped i s) in
    let e = counts_access i s in
    record { steps = omega (arith, q.steps); accesses = omega (arith, q.accesses, e) }
met_turn n c s false (D.Refused R.Foreign) f g h = nothing_met n 1 c s
met_turn n c s false (D.Refused R.Undocumented) f g h = nothing_met n 2 c s
met_turn n c s false (D.Refused R.SideIndex) f g h = nothing_met n 3 c s
met_turn n c s false (D.Refused R.SideMask) f g h = nothing_met n 4 c s

meets_from : (budget : ℕ) (ts : List Triple) (n : ℕ) (c : Counts) (s : State) → Meets n c (run_from budget ts n c s) (met_from budget ts n s)
unfolding run_from met_from triple_of
meets_from budget [] n c s = nothing_met n 0 c s
meets_from budget (t ∷ ts) n c s =
    met_turn n c s (eqb n budget) (decode_of t.word t.side t.mask) (λ e z. run_from budget ts (n + 1) e z) (λ z. met_from budget ts (n + 1) z)
    (λ e z. meets_from budget ts (n + 1) e z)

module _ (budget : ℕ) (ws : List ℕ) (s : State) where
  meets : Meets 0 none (run_of budget ws s) (met_of budget ws s)
  unfolding run_of met_of
  meets = go (sized_of s) (eqb (length ws % 3) 0)
    where
      go : (x y : Bool)
          → Meets 0 none (cond x (cond y (run_from budget (triples ws) 0 none s) (ended 6 0 none s)) (ended 5 0 none s)) (cond x (cond y (met_from budget (triples ws) 0 s) []) [])
      go true true = meets_from budget (triples ws) 0 none s
      go true false = nothing_met 0 6 none s
      go false y = nothing_met 0 5 none s

  -- the steps done are as many as the run says
  pub steps_met : length (met_of budget ws s) ≡ (run_of budget ws s).steps
  steps_met = omega (arith, meets.steps)

  -- the sixteen figures add up to the run's cell accesses
  pub banks_add_up : total (bank_figures (met_of budget ws s)) ≡ (run_of budget ws s).counts.accesses
  unfolding bank_figures
  banks_add_up = swapped in_bank cells (from 0 16) banks_are (met_of budget ws s) ∙ omega (arith, meets.accesses)

  -- the twelve add up to its loads and stores
  pub ways_add_up : total (way_figures (met_of budget ws s)) ≡ sum_over made (met_of budget ws s)
  unfolding way_figures
  ways_add_up = swapped by_way made (from 0 12) ways_are (met_of budget ws s)

-- ---- joined lists

-- under a budget that is larger by the steps done before, a run does the same steps
met_shift : (m budget : ℕ) (ts : List Triple) (n : ℕ) (s : State) → met_from (m + budget) ts (m + n) s ≡ met_from budget ts n s
unfolding met_from
met_shift m budget [] n s = refl
met_shift m budget (t ∷ ts) n s =
    ap₂ (λ (x : Bool) (ms : List Met). cond x [] ms) (same (eqb n budget) refl)
    (go (decode_of t.word t.side t.mask) (λ z. ap (λ (k : ℕ). met_from (m + budget) ts k z) next ∙ met_shift m budget ts (n + 1) z))
  where
    next : m + n + 1 ≡ m + (n + 1)
    next = omega arith

    same : (x : Bool) → eqb n budget ≡ x → eqb (m + n) (m + budget) ≡ eqb n budget
    same true e = rw (e, eq-eqb (m + n) (m + budget) (ap (λ (k : ℕ). m + k) (eqb-true n budget e)))
    same false e = rw (e, ne_eqb (m + n) (m + budget) (λ q. eqb-false n budget e (omega arith)))

    go : (d : Decoded) → ((z : State) → met_from (m + budget) ts (m + n + 1) z ≡ met_from budget ts (n + 1) z)
        → met_by d s (met_from (m + budget) ts (m + n + 1)) ≡ met_by d s (met_from budget ts (n + 1))
    go (D.Insn i) h = ap (λ (ms : List Met). record { insn = i; before = s } ∷ ms) (h (stepped i s))
    go (D.Refused k) h = refl

-- what comes after a run, where it is done
goes_on : ℕ → List Triple → RunOutcome → List Met
goes_on budget us o = cond (eqb o.number 0) (met_from budget us o.steps o.after) []

join_turn : (budget n : ℕ) (c : Counts) (s : State) (us : List Triple) (x : Bool) (d : Decoded) (f : Counts → State → RunOutcome) (g h : State → List Met)
    → ((e : Counts) (z : State) → h z ≡ g z ++ goes_on budget us (f e z))
    → let o : Outcome = by_decoded d s in
    cond x [] (met_by d s h)
    ≡ cond x [] (met_by d s g)
    ++ goes_on budget us (cond x (ended 7 n c s) (cond (eqb o.number 0) (f (plus c o.counts) o.after) (ended o.number n c o.after)))
unfolding goes_on
join_turn budget n c s us true d f g h q = refl
join_turn budget n c s us false (D.Insn i) f g h q =
    ap (λ (ms : List Met). record { insn = i; before = s } ∷ ms) (q (plus c (counted i s)) (stepped i s))
join_turn budget n c s us false (D.Refused R.Foreign) f g h q = refl
join_turn budget n c s us false (D.Refused R.Undocumented) f g h q = refl
join_turn budget n c s us false (D.Refused R.SideIndex) f g h q = refl
join_turn budget n c s us false (D.Refused R.SideMask) f g h q = refl

met_join : (budget : ℕ) (ts us : List Triple) (n : ℕ) (c : Counts) (s : State)
    → met_from budget (ts ++ us) n s ≡ met_from budget ts n s ++ goes_on budget us (run_from budget ts n c s)
unfolding run_from met_from triple_of goes_on
met_join budget [] us n c s = refl
met_join budget (t ∷ ts) us n c s =
    join_turn budget n c s us (eqb n budget) (decode_of t.word t.side t.mask) (λ e z. run_from budget ts (n + 1) e z)
    (λ z. met_from budget ts (n + 1) z) (λ z. met_from budget (ts ++ us) (n + 1) z) (λ e z. met_join budget ts us (n + 1) e z)

-- figures added one by one
abbrev pub added : List ℕ → List ℕ → List ℕ
added [] ys = []
added (x ∷ xs) ys = (x + get_or ys 0 0) ∷ added xs (drop 1 ys)

map_added : (f g : ℕ → ℕ) (ks : List ℕ) → map (λ k. f k + g k) ks ≡ added (map f ks) (map g ks)
map_added f g [] = refl
map_added f g (k ∷ ks) = ap (λ (l : List ℕ). (f k + g k) ∷ l) (map_added f g ks)

sum_join : (f : Access → ℕ) (ms ns : List Met) → sum_over f (ms ++ ns) ≡ sum_over f ms + sum_over f ns
sum_join f [] ns = omega arith
sum_join f (m ∷ ms) ns = rw (sum_join f ms ns) (omega arith)

figures_join : (f : ℕ → Access → ℕ) (ks : List ℕ) (ms ns : List Met)
    → map (λ k. sum_over (f k) (ms ++ ns)) ks ≡ added (map (λ k. sum_over (f k) ms) ks) (map (λ k. sum_over (f k) ns) ks)
figures_join f ks ms ns = map_eq _ _ (λ k. sum_join (f k) ms ns) ks ∙ map_added (λ k. sum_over (f k) ms) (λ k. sum_over (f k) ns) ks

-- the second list's steps: by itself, from the first one's state and under the budget that is left, where the first is done
abbrev pub then : ℕ → List ℕ → RunOutcome → List Met
then budget us o = cond (eqb o.number 0) (met_of (budget - o.steps) us o.after) []

module _ (budget : ℕ) (s : State) (ws : List ℕ) where
  -- a list call that is begun, and one that is not
  begun : length ws % 3 ≡ 0 → sized_of s ≡ true → (met_of budget ws s ≡ met_from budget (triples ws) 0 s) × (run_of budget ws s ≡ run_from budget (triples ws) 0 none s)
  unfolding met_of run_of
  begun h e = (rw (e, eq-eqb (length ws % 3) 0 h) refl, rw (e, eq-eqb (length ws % 3) 0 h) refl)

  not_begun : sized_of s ≡ false → (met_of budget ws s ≡ []) × (run_of budget ws s ≡ ended 5 0 none s)
  unfolding met_of run_of
  not_begun e = (rw e refl, rw e refl)

module _ (budget : ℕ) (ws us : List ℕ) (s : State) (h : length ws % 3 ≡ 0) (g : length us % 3 ≡ 0) where
  on_from : Sized s → goes_on budget (triples us) (run_of budget ws s) ≡ then budget us (run_of budget ws s)
  unfolding goes_on met_of
  on_from z =
      let o = run_of budget ws s in
      let l = steps_budget budget ws s in
      let e : o.steps + (budget - o.steps) ≡ budget = omega arith in
      let f : o.steps + 0 ≡ o.steps = omega arith in
      ap (λ (ms : List Met). cond (eqb o.number 0) ms [])
      (ap₂ (λ (b k : ℕ). met_from b (triples us) k o.after) (sym e) (sym f)
      ∙ met_shift o.steps (budget - o.steps) (triples us) 0 o.after
      ∙ sym (rw (sized_only o.after (sized_run budget ws s z), eq-eqb (length us % 3) 0 g) refl))

  -- a joined list does the steps of both
  pub joined_met : met_of budget (ws ++ us) s ≡ met_of budget ws s ++ then budget us (run_of budget ws s)
  joined_met = go (sized_of s) refl
    where
      go : (x : Bool) → sized_of s ≡ x → met_of budget (ws ++ us) s ≡ met_of budget ws s ++ then budget us (run_of budget ws s)
      go true e =
          (begun budget s (ws ++ us) (simp length-append (omega arith)) e).0
          ∙ ap (λ (ts : List Triple). met_from budget ts 0 s) (triples_join ws us h)
          ∙ met_join budget (triples ws) (triples us) 0 none s
          ∙ ap₂ (λ (ms : List Met) (o : RunOutcome). ms ++ goes_on budget (triples us) o) (sym (begun budget s ws h e).0) (sym (begun budget s ws h e).1)
          ∙ ap (λ (ms : List Met). met_of budget ws s ++ ms) (on_from (sized_if s e))
      go false e = (not_begun budget s (ws ++ us) e).0 ∙ sym (ap₂ (λ (ms : List Met) (o : RunOutcome). ms ++ then budget us o) (not_begun budget s ws e).0 (not_begun budget s ws e).1)

  -- "the census of a joined list is the sum"
  pub banks_join : bank_figures (met_of budget (ws ++ us) s) ≡ added (bank_figures (met_of budget ws s)) (bank_figures (then budget us (run_of budget ws s)))
  unfolding bank_figures
  banks_join = ap bank_figures joined_met ∙ figures_join in_bank (from 0 16) (met_of budget ws s) (then budget us (run_of budget ws s))

  pub ways_join : way_figures (met_of budget (ws ++ us) s) ≡ added (way_figures (met_of budget ws s)) (way_figures (then budget us (run_of budget ws s)))
  unfolding way_figures
  ways_join = ap way_figures joined_met ∙ figures_join by_way (from 0 12) (met_of budget ws s) (then budget us (run_of budget ws s))
