-- A stretch of whole triples: one buffer of them, on the definition alone.
use mathlib.Core.Path.{◌≡◌, refl, sym, ap, subst, ◌∙◌}
use mathlib.Core.Bool.{Bool, true, false, not, cond}
use mathlib.Core.List.{List, ◌++◌}
use Prim.Native.Nat.{ℕ, ◌+◌, ◌-◌, ◌*◌, ◌/◌, ◌%◌, ◌≤◌, ◌<◌}
use native.Mathlib.Omega.{arith}
use borrow.Author.Tests.{eqb-true, eq-eqb, ltb-true, ltb-false, not-true}
use lib.Dec.{eqb, ltb}
use lib.ListN.{length, take, drop, length-drop, take-append-drop}
use lib.Seq.{length-take-le, drop-drop}
use Rattle.terms.specs.Answers.{number}
use Rattle.terms.specs.Counts.{none, plus, Within}
use Rattle.terms.proofs.Sums.{within_plus}
use Rattle.pieces.specs.State.{State, Sized}
use Rattle.pieces.proofs.Right.{sized_only}
use Rattle.machine.specs.Answers.{run_outcome}
use Rattle.machine.specs.Inner.Turns.{ran_of}
use Rattle.machine.specs.declared.Ran.{Ran}
use Rattle.model.specs.Run.{Triple, RunOutcome, triples, ended, run_from, run_of}
use Rattle.model.specs.Parts.{first_words, words_of}
use Rattle.model.proofs.Lists.{onward, joined_from, bounds, Bounds}
use Rattle.model.proofs.Bytes.{length_words, words_take, byte_triples, few_triples}
use Rattle.model.proofs.Fed.{added, shifted}
use Rattle.parts.specs.Inner.Feed.{room_of}

-- ---- how far a buffer goes

module _ (len i : ℕ) (at : i % 12 ≡ 0) (l : i < len / 12 * 12) where
  -- at least one triple, whole ones, no more than the buffer holds, and none behind the last
  pub room_fits : (n : ℕ) → n ≡ room_of (len / 12 * 12 - i) → (0 < n) × (n ≤ 480) × (n % 3 ≡ 0) × (i + n * 4 ≤ len / 12 * 12)
  room_fits n q = rw q (go (ltb (len / 12 * 12 - i) 1920) refl)
    where
      go : (t : Bool) → ltb (len / 12 * 12 - i) 1920 ≡ t
          → let n = cond t ((len / 12 * 12 - i) / 4) 480 in (0 < n) × (n ≤ 480) × (n % 3 ≡ 0) × (i + n * 4 ≤ len / 12 * 12)
      go true e = let h = ltb-true (len / 12 * 12 - i) 1920 e in (omega arith, omega arith, omega arith, omega arith)
      go false e = let h = ltb-false (len / 12 * 12 - i) 1920 e in (omega arith, omega arith, omega arith, omega arith)

-- ---- a run that has stopped, one that has no more to do

pub at_rest : (b : ℕ) (bs : List ℕ) (o : RunOutcome) → not (eqb o.number 0) ≡ true → onward b (triples (words_of bs)) o ≡ o
at_rest b bs o e = rw (not-true (eqb o.number 0) e) refl

pub no_more : (b : ℕ) (bs : List ℕ) (o : RunOutcome) → length bs < 12 → onward b (triples (words_of bs)) o ≡ o
unfolding run_from
no_more b bs o h = rw (few_triples bs h) (go (eqb o.number 0) refl)
  where
    go : (t : Bool) → eqb o.number 0 ≡ t → cond t (ended 0 o.steps o.counts o.after) o ≡ o
    go true e = λ i. ended (sym (eqb-true o.number 0 e) i) o.steps o.counts o.after
    go false e = refl

-- ---- one buffer

going : (u v : RunOutcome) {t : Bool} → t ≡ true → u ≡ cond t u v
going u v e = rw e refl

-- a list call on pieces of right lengths and whole triples
run_open : (b : ℕ) (ws : List ℕ) (s : State) → Sized s → length ws % 3 ≡ 0 → run_of b ws s ≡ run_from b (triples ws) 0 none s
unfolding run_of
run_open b ws s z h = rw (sized_only s z, eq-eqb (length ws % 3) 0 h) refl

-- the run stands at `ran` and s with the bytes from i on before it; a list call on the next n words came to x and t
module _ (b : ℕ) (bs : List ℕ) (i n : ℕ) (ran : Ran) (s : State) (z : Sized s) (within : i + n * 4 ≤ length bs) (three : n % 3 ≡ 0) (budgeted : ran.steps ≤ b)
    (x : Ran) (t : State) (e : run_outcome x t ≡ run_of (b - ran.steps) (first_words n (drop i bs)) s) where
  front : List ℕ
  front = take (n * 4) (drop i bs)

  front_length : length front ≡ n * 4
  unfolding front
  front_length = length-take-le (n * 4) (drop i bs) (simp length-drop (omega arith))

  split : drop i bs ≡ front ++ drop (i + 4 * n) bs
  unfolding front
  split =
      let k : i + n * 4 ≡ i + 4 * n = omega arith in
      sym (take-append-drop (n * 4) (drop i bs)) ∙ ap (λ (l : List ℕ). take (n * 4) (drop i bs) ++ l) (drop-drop (n * 4) i bs ∙ ap (λ (j : ℕ). drop j bs) k)

  -- what the buffer came to, with what was done before
  front_run : run_outcome (ran_of x.end (ran.steps + x.steps) (plus ran.counts x.counts)) t
      ≡ run_from b (triples (words_of front)) ran.steps ran.counts s
  unfolding front
  front_run =
      let w : length (words_of front) % 3 ≡ 0 = rw (length_words front, front_length) (omega arith) in
      ap (added ran.steps ran.counts)
      (e ∙ ap (λ (ws : List ℕ). run_of (b - ran.steps) ws s) (words_take n (drop i bs) (simp length-drop (omega arith)))
      ∙ run_open (b - ran.steps) (words_of front) s z w)
      ∙ sym (shifted b (triples (words_of front)) ran.steps ran.counts s budgeted)

  -- with the bytes behind it, it comes to what all of them come to
  pub stretch : eqb (number ran.end) 0 ≡ true → onward b (triples (words_of (drop (i + 4 * n) bs))) (run_outcome (ran_of x.end (ran.steps + x.steps) (plus ran.counts x.counts)) t)
      ≡ onward b (triples (words_of (drop i bs))) (run_outcome ran s)
  stretch h =
      let rest : List ℕ = drop (i + 4 * n) bs in
      ap (onward b (triples (words_of rest))) front_run
      ∙ sym (joined_from b (triples (words_of front)) (triples (words_of rest)) ran.steps ran.counts s)
      ∙ ap (λ (ts : List Triple). run_from b ts ran.steps ran.counts s) (sym (byte_triples front rest (rw front_length (omega arith))) ∙ ap (λ (l : List ℕ). triples (words_of l)) (sym split))
      ∙ going (run_from b (triples (words_of (drop i bs))) ran.steps ran.counts s) (run_outcome ran s) h

  within_buffer : Bounds (b - ran.steps) 0 (length (first_words n (drop i bs)) / 3) (run_outcome x t)
  within_buffer = subst (Bounds (b - ran.steps) 0 (length (first_words n (drop i bs)) / 3)) (sym e) (bounds (b - ran.steps) (first_words n (drop i bs)) s)

  pub still_budgeted : ran.steps + x.steps ≤ b
  still_budgeted = omega (arith, within_buffer.budgeted)

  pub still_counted : Within ran.steps ran.counts → Within (ran.steps + x.steps) (plus ran.counts x.counts)
  still_counted w = within_plus ran.steps x.steps ran.counts x.counts w within_buffer.counted
