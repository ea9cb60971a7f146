-- What holds at each turn of the loop over whole triples, a buffer a turn, and what a turn makes of it.
use Rattle.std.proofs.Common.{◌≡◌, ℕ, ◌+◌, ◌-◌, ◌*◌, ◌/◌, ◌%◌, ◌^◌, ◌≤◌, ◌<◌, true, false, not, List, length, take, drop, length-drop, eqb, sym, ap, ◌∙◌, arith}
use Rattle.std.proofs.Math.Seq.{take_at}
use Rattle.std.proofs.lemmas.Bool.{not-false}
use Rattle.terms.specs.Answers.{number}
use Rattle.terms.specs.Counts.{plus, Within}
use Rattle.terms.specs.Inner.Runs.{most}
use Rattle.terms.proofs.Sums.{within_le}
use Rattle.pieces.specs.State.{State, Sized}
use Rattle.machine.specs.Answers.{run_outcome}
use Rattle.machine.specs.Inner.Turns.{ran_of}
use Rattle.machine.specs.declared.Ran.{Ran}
use Rattle.model.specs.Run.{triples, run_of}
use Rattle.model.specs.Parts.{first_words, words_of}
use Rattle.model.proofs.Bytes.{length_first}
use Rattle.model.proofs.Lists.{onward}
use Rattle.parts.specs.Inner.Feed.{room_of}
use Rattle.parts.proofs.Fill.{filled, filled_length}
use Rattle.parts.proofs.Stretch.{room_fits, at_rest, no_more, stretch, still_budgeted, still_counted}

pub record Streaming (bs : List ℕ) (b whole : ℕ) (s₀ s : State) (from ran : Ran) (words : List ℕ) (i : ℕ) : Type 0 where
  pub till : whole ≡ length bs / 12 * 12
  pub at : i % 12 ≡ 0
  pub within : i ≤ whole
  pub budgeted : ran.steps ≤ b
  pub counted : Within ran.steps ran.counts
  pub room : length words ≡ 480
  pub sized : Sized s
  pub same : onward b (triples (words_of (drop i bs))) (run_outcome ran s) ≡ onward b (triples (words_of bs)) (run_outcome from s₀)

module _ {bs : List ℕ} {b whole : ℕ} {s₀ s : State} {from ran : Ran} {words : List ℕ} {i : ℕ} (q : Streaming bs b whole s₀ s from ran words i) where
  -- how many words the buffer takes in a turn
  pub fits : i < whole → (n : ℕ) → n ≡ room_of (whole - i) → (0 < n) × (n ≤ 480) × (n % 3 ≡ 0) × (i + n * 4 ≤ whole)
  fits l n e = rw q.till (room_fits (length bs) i q.at (rw (← q.till) l) n (rw (← q.till) e))

  -- where the run has stopped, and where no triple is left
  pub stays : not (eqb (number ran.end) 0) ≡ true → run_outcome ran s ≡ onward b (triples (words_of bs)) (run_outcome from s₀)
  stays e = sym (at_rest b (drop i bs) (run_outcome ran s) e) ∙ q.same

  pub ends : whole ≤ i → run_outcome ran s ≡ onward b (triples (words_of bs)) (run_outcome from s₀)
  ends l = sym (no_more b (drop i bs) (run_outcome ran s) (simp length-drop (omega (arith, q.till)))) ∙ q.same

  -- n words were filled into the buffer, which is w then; a list call on them came to x and t
  module _ (l : i < whole) (n : ℕ) (e : n ≡ room_of (whole - i)) (w : List ℕ) (f : w ≡ filled n (drop i bs) words) where
    pub filled_room : length w ≡ 480
    filled_room = ap length f ∙ filled_length n (drop i bs) words (omega (arith, q.room, (fits l n e).1)) ∙ q.room

    inside : i + n * 4 ≤ length bs
    inside = omega (arith, (fits l n e).3, q.till)

    module _ (x : Ran) (t : State) (g : run_outcome x t ≡ run_of (b - ran.steps) (take n w) s) where
      -- the buffer's words are the bytes' own
      lent : run_outcome x t ≡ run_of (b - ran.steps) (first_words n (drop i bs)) s
      lent =
          g
          ∙ ap (λ (ws : List ℕ). run_of (b - ran.steps) ws s) (ap (take n) f ∙ take_at (first_words n (drop i bs)) (drop n words) n (length_first n (drop i bs)))

      still : ran.steps + x.steps ≤ b
      still = still_budgeted b bs i n ran s q.sized inside (fits l n e).2 q.budgeted x t lent

      told : Within (ran.steps + x.steps) (plus ran.counts x.counts)
      told = still_counted b bs i n ran s q.sized inside (fits l n e).2 q.budgeted x t lent q.counted

      -- the sums do not overflow
      pub small : b < 2 ^ 32 → (ran.steps + x.steps < most) × Within most (plus ran.counts x.counts)
      small h = (omega (arith, still, h), within_le (ran.steps + x.steps) most _ (omega (arith, still, h)) told)

      pub next : not (eqb (number ran.end) 0) ≡ false → Sized t → (y : Ran) → y ≡ ran_of x.end (ran.steps + x.steps) (plus ran.counts x.counts)
          → Streaming bs b whole s₀ t from y w (i + 4 * n)
      next h z y k = record {
        till = q.till;
        at = omega (arith, (fits l n e).2, q.at);
        within = omega (arith, (fits l n e).3);
        budgeted = rw k still;
        counted = rw k told;
        room = filled_room;
        sized = z;
        same = rw k (stretch b bs i n ran s q.sized inside (fits l n e).2 q.budgeted x t lent (not-false (eqb (number ran.end) 0) h) ∙ q.same);
      }
