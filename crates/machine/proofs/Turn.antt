-- One turn of a list's run, on the definition alone.
use mathlib.Core.Path.{◌≡◌, refl, sym, subst, ◌∙◌}
use mathlib.Core.Bool.{Bool, true, false, cond, ◌&&◌, true≢false}
use mathlib.Core.List.{List}
use Prim.Native.Nat.{ℕ, ◌+◌, ◌*◌, ◌/◌, ◌%◌, ◌≤◌, ◌<◌}
use native.Mathlib.Omega.{arith}
use native.Mathlib.Nat.{min-eq_left, min-eq_right, min-le_left, min-le_right}
use Rattle.std.specs.Prelude.{min}
use native.Mathlib.Decide.{dec_lt}
use borrow.Author.Tests.{eqb-true, eq-eqb, ne_eqb, ltb-true, ltb-false, lt-ltb, le-ltb}
use lib.Dec.{eqb, ltb}
use lib.ListN.{length, get_or, drop}
use Rattle.terms.specs.declared.Refusal.{Refusal}
use Rattle.terms.specs.declared.Refusal.TheVariants.{Foreign, Undocumented, SideIndex, SideMask}
use Rattle.pieces.specs.State.{State}
use Rattle.model.specs.Step.{Outcome, refusal, triple_of}
use Rattle.model.specs.Run.{RunOutcome, triples, ended, run_from}
use Rattle.model.proofs.Cells.{triple_within}
use Rattle.model.proofs.Triples.{triples_at, triples_end}
use Rattle.units.specs.Inner.Answers.{answer_outcome}
use Rattle.machine.specs.Inner.Turns.{covered_by}
use Rattle.terms.specs.Answers.{number}
use Rattle.terms.specs.Inner.Runs.{end_of, counts_in, amount}
use Rattle.terms.specs.Counts.{plus, Within}
use Rattle.terms.specs.declared.Counted.{Counted}
use Rattle.terms.specs.declared.Counts.{Counts}
use Rattle.std.specs.Prelude.{Ok, Err}
use Rattle.std.specs.declared.result.Result.{Result}
use Rattle.terms.specs.declared.End.TheVariants as E

-- a refusal's number is not 0
stops : (k : Refusal) (u v : RunOutcome) → cond (eqb (refusal k) 0) u v ≡ v
stops Foreign u v = refl
stops Undocumented u v = refl
stops SideIndex u v = refl
stops SideMask u v = refl

module _ (b : ℕ) (ws : List ℕ) (i n : ℕ) (k : Counts) (s : State) where
  pub done : length ws ≤ i → run_from b (triples (drop i ws)) n k s ≡ ended 0 n k s
  unfolding run_from
  done h = rw (triples_end ws i h) refl

  module _ (h : i + 2 < length ws) where
    pub spent : n ≡ b → run_from b (triples (drop i ws)) n k s ≡ ended 7 n k s
    unfolding run_from
    spent e = rw (triples_at ws i h, eq-eqb n b e) refl

    -- x and t are the triple's answer and the state after it
    module _ (x : Result Counted Refusal) (t : State) (e : answer_outcome x t ≡ triple_of (get_or ws i 0) (get_or ws (i + 1) 0) (get_or ws (i + 2) 0) s) (f : n ≡ b → ⊥) where
      pub turn : (m : Counted) → x ≡ Ok m → run_from b (triples (drop i ws)) n k s ≡ run_from b (triples (drop (i + 3) ws)) (n + 1) (plus k (amount m)) t
      unfolding run_from
      turn m d = rw (triples_at ws i h, ne_eqb n b f, ← e, d) refl

      pub halt : (j : Refusal) → x ≡ Err j → run_from b (triples (drop i ws)) n k s ≡ ended (number (end_of x)) n k t
      unfolding run_from
      halt j d = rw (triples_at ws i h, ne_eqb n b f, ← e, d) (stops j _ _)

pub covered_le : (count b : ℕ) → covered_by count b ≤ 3 * b
covered_le count b = go (ltb (count / 3) b) refl
  where
    go : (t : Bool) → ltb (count / 3) b ≡ t → cond t (3 * (count / 3)) (3 * b) ≤ 3 * b
    go true e = let l = ltb-true (count / 3) b e in omega arith
    go false e = omega arith

-- the words that the budget covers, as triples
pub in_triples : (count b : ℕ) → covered_by count b / 3 ≡ min (count / 3) b
in_triples count b = go (ltb (count / 3) b) refl
  where
    go : (t : Bool) → ltb (count / 3) b ≡ t → cond t (3 * (count / 3)) (3 * b) / 3 ≡ min (count / 3) b
    go true e =
        let l = ltb-true (count / 3) b e in
        let u : 3 * (count / 3) / 3 ≡ count / 3 = omega arith in
        u ∙ sym (min-eq_left (omega (arith, l)))
    go false e =
        let l = ltb-false (count / 3) b e in
        let u : 3 * b / 3 ≡ b = omega arith in
        u ∙ sym (min-eq_right (omega (arith, l)))

-- what the budget covers, so many triples: within it a whole triple is left and the budget is not spent; at its end all is done, or the budget is spent
module _ (ws : List ℕ) (b most i n : ℕ) (till : most ≡ min (length ws / 3) b) (at : i ≡ n * 3) where
  pub inside : n < most → (i + 2 < length ws) × (n < b)
  inside h =
      let x : most ≤ length ws / 3 = rw till (min-le_left (length ws / 3) b) in
      let y : most ≤ b = rw till (min-le_right (length ws / 3) b) in
      (omega (arith, x), omega (arith, y))

  pub outside : (k : Counts) (s : State) → length ws % 3 ≡ 0 → n ≡ most
      → ended (number (cond (ltb most (length ws / 3)) E.Spent E.Done)) n k s ≡ run_from b (triples (drop i ws)) n k s
  outside k s whole e = elim (dec_lt most (length ws / 3)) [ yes l ↦ short l | no l ↦ all (omega (arith, l)) ]
    where
      short : most < length ws / 3 → ended (number (cond (ltb most (length ws / 3)) E.Spent E.Done)) n k s ≡ run_from b (triples (drop i ws)) n k s
      short l =
          let f : most ≡ b = elim (dec_lt b (length ws / 3)) [ yes u ↦ till ∙ min-eq_right (omega (arith, u)) | no u ↦ absurd (omega (arith, l, till ∙ min-eq_left (omega (arith, u)))) ] in
          rw (lt-ltb most (length ws / 3) l) (sym (spent b ws i n k s (omega (arith, l)) (e ∙ f)))

      all : length ws / 3 ≤ most → ended (number (cond (ltb most (length ws / 3)) E.Spent E.Done)) n k s ≡ run_from b (triples (drop i ws)) n k s
      all l = rw (le-ltb most (length ws / 3) l) (sym (done b ws i n k s (omega (arith, l, e))))

-- a triple counts no more than one step may
pub cheap : (x : Result Counted Refusal) (t : State) (w side mask : ℕ) (s : State) → answer_outcome x t ≡ triple_of w side mask s → (m : Counted) → x ≡ Ok m → Within 1 (amount m)
cheap x t w side mask s e m d =
    subst (λ (y : Result Counted Refusal). Within 1 (counts_in y)) d (subst (λ (o : Outcome). Within 1 o.counts) (sym e) (triple_within w side mask s))
