-- What is kept of a run in parts between two calls: its bounds.
use mathlib.Core.Path.{◌≡◌, refl, sym}
use Prim.Native.Nat.{ℕ, zero, suc, ◌+◌, ◌≤◌, ◌<◌, zero-le}
use native.Mathlib.Omega.{arith}
use mathlib.Core.Bool.{Bool, true, false, cond}
use mathlib.Core.List.{List, [], ◌∷◌, ◌++◌}
use borrow.Author.Tests.{eqb-true, ltb-true, not-false}
use lib.Dec.{eqb, ltb}
use lib.ListN.{length, get_or}
use Rattle.terms.specs.Counts.{plus, Within}
use Rattle.terms.specs.declared.Counts.{Counts}
use Rattle.terms.proofs.Sums.{within_none}
use Rattle.pieces.specs.State.{State, sized_of}
use Rattle.pieces.proofs.Right.{clash}
use Rattle.model.specs.Step.{Outcome, triple_of}
use Rattle.model.specs.Run.{Triple, triples, RunOutcome, ended, run_from}
use Rattle.model.specs.Parts.{words_of, Parts, parts, Went, went, begun, kept, met, taken, fed, part_of, end_of}
use Rattle.model.proofs.Laws.{turn}
use Rattle.model.proofs.Refused.{triple_number_le}
use Rattle.model.proofs.Lists.{bounds_from}

-- ---- what the calls leave is good

-- what holds of every run that was begun, fed and ended
pub record Good (p : Parts) : Type 0 where
  -- no more steps than the budget
  pub budgeted : p.steps ≤ p.budget
  -- no more counted than they can count
  pub counted : Within p.steps p.counts
  -- fewer bytes left over than a triple's twelve
  pub few : length p.left < 12
  -- the answer is one of eight
  pub answered : p.number ≤ 7
  -- and is 0 while the run is not over
  pub well : p.over ≡ false → p.number ≡ 0
  -- what is left over is bytes
  pub bytes : (i : ℕ) → i < length p.left → get_or p.left i 0 < 256

-- a new run is good
pub begun_good : (budget : ℕ) → Good (begun budget)
begun_good budget =
    record { budgeted = zero-le; counted = within_none 0; few = omega arith; answered = zero-le; well = λ e. refl; bytes = λ i h. absurd (omega arith) }

-- and so is one that is over with an answer
kept_good : (e : ℕ) (p : Parts) → e ≤ 7 → Good p → Good (kept e p)
kept_good e p h g =
    record { budgeted = g.budgeted; counted = g.counted; few = g.few; answered = h; well = λ z. absurd (clash (sym z)); bytes = g.bytes }

-- no run gives 8 or more
number_le : (budget : ℕ) (ts : List Triple) (n : ℕ) (c : Counts) (s : State) → (run_from budget ts n c s).number ≤ 7
unfolding run_from
number_le budget [] n c s = zero-le
number_le budget (t ∷ ts) n c s =
    let o : Outcome = triple_of t.word t.side t.mask s in
    let d : o.number ≤ 4 = triple_number_le t.word t.side t.mask s in
    turn (λ (r : RunOutcome). r.number ≤ 7) budget n o.number
    (ended 7 n c s) (run_from budget ts (n + 1) (plus c o.counts) o.after) (ended o.number n c o.after)
    (λ e. omega arith) (λ e z. number_le budget ts (n + 1) (plus c o.counts) o.after) (λ e z. omega arith)

-- a triple's outcome is good
met_good : (b n : ℕ) (ts : List Triple) (c : Counts) (s : State) → n ≤ b → Within n c → Good (met b (run_from b ts n c s)).run
met_good b n ts c s h w =
    let o : RunOutcome = run_from b ts n c s in
    record {
      budgeted = (bounds_from b ts n c s h w).budgeted;
      counted = (bounds_from b ts n c s h w).counted;
      few = omega arith;
      answered = number_le b ts n c s;
      well = λ e. eqb-true o.number 0 (not-false (eqb o.number 0) e);
      bytes = λ i h. absurd (omega arith);
    }

-- bytes and one more are bytes
bytes_snoc : (l : List ℕ) (x : ℕ) → ((i : ℕ) → i < length l → get_or l i 0 < 256) → x < 256
    → (i : ℕ) → i < length (l ++ (x ∷ [])) → get_or (l ++ (x ∷ [])) i 0 < 256
bytes_snoc [] x f h zero g = h
bytes_snoc [] x f h (suc i) g = absurd (omega arith)
bytes_snoc (y ∷ l) x f h zero g = f 0 (omega arith)
bytes_snoc (y ∷ l) x f h (suc i) g = bytes_snoc l x (λ k e. f (suc k) (omega arith)) h i (omega arith)

-- a byte keeps a run good
taken_good : (x : ℕ) (p : Parts) (s : State) → Good p → x < 256 → Good (taken x p s).run
unfolding taken
taken_good x p s g h = go (ltb (length (p.left ++ (x ∷ []))) 12) (ltb-true _ 12)
  where
    go : (y : Bool) → (y ≡ true → length (p.left ++ (x ∷ [])) < 12)
        → Good
        (cond y (went (parts p.budget p.over p.number p.steps p.counts (p.left ++ (x ∷ []))) s)
        (met p.budget (run_from p.budget (triples (words_of (p.left ++ (x ∷ [])))) p.steps p.counts s))).run
    go true e =
        record {
          budgeted = g.budgeted;
          counted = g.counted;
          few = e refl;
          answered = g.answered;
          well = g.well;
          bytes = bytes_snoc p.left x g.bytes h;
        }
    go false e = met_good p.budget p.steps (triples (words_of (p.left ++ (x ∷ [])))) p.counts s g.budgeted g.counted

-- and so do many
pub fed_good : (bs : List ℕ) (p : Parts) (s : State) → Good p → ((i : ℕ) → i < length bs → get_or bs i 0 < 256) → Good (fed bs p s).run
unfolding fed
fed_good [] p s g f = g
fed_good (b ∷ bs) p s g f =
    let w : Went = taken b p s in
    go p.over (fed bs w.run w.after) (fed_good bs w.run w.after (taken_good b p s g (f 0 (omega arith))) (λ i h. f (suc i) (omega arith)))
  where
    go : (x : Bool) (w : Went) → Good w.run → Good (cond x (went p s) w).run
    go true w h = g
    go false w h = h

-- a part leaves a good run good, whatever the pieces
pub part_good : (bs : List ℕ) (p : Parts) (s : State) → Good p → ((i : ℕ) → i < length bs → get_or bs i 0 < 256) → Good (part_of bs p s).run
unfolding part_of
part_good bs p s g f = go p.over (sized_of s)
  where
    go : (x y : Bool) → Good (cond x (went p s) (cond y (fed bs p s) (went (kept 5 p) s))).run
    go true y = g
    go false true = fed_good bs p s g f
    go false false = kept_good 5 p (omega arith) g

-- and so does the end call
pub end_good : (p : Parts) → Good p → Good (end_of p)
unfolding end_of
end_good p g = go p.over (eqb (length p.left) 0)
  where
    go : (x y : Bool) → Good (cond x p (kept (cond y 0 6) p))
    go true y = g
    go false true = kept_good 0 p zero-le g
    go false false = kept_good 6 p (omega arith) g
