-- What holds at each turn of a list's loop, and what a turn makes of it: what is left of the list, run from here, is what the whole list does.
use Rattle.std.proofs.Common.{◌≡◌, ℕ, ◌+◌, ◌*◌, ◌/◌, ◌^◌, ◌≤◌, ◌<◌, ◌%◌, List, [], length, get_or, take, drop, cond, min, ltb, refl, sym, ap, ◌∙◌, arith}
use Rattle.terms.specs.Answers.{number}
use Rattle.terms.specs.Inner.Runs.{end_of, amount, most as most_counts}
use Rattle.terms.specs.Counts.{none, plus, Within}
use Rattle.terms.specs.declared.Counted.{Counted}
use Rattle.terms.specs.declared.Counts.{Counts}
use Rattle.terms.specs.declared.Refusal.{Refusal}
use Rattle.std.specs.Prelude.{Ok, Err}
use Rattle.std.specs.declared.result.Result.{Result}
use Rattle.terms.specs.declared.End.TheVariants as E
use Rattle.terms.proofs.Sums.{within_none, within_plus, within_le}
use Rattle.pieces.specs.State.{State}
use Rattle.model.specs.Step.{triple_of}
use Rattle.model.specs.Run.{RunOutcome, triples, ended, run_from}
use Rattle.units.specs.Inner.Answers.{Answered, answered, answered_of, answer_outcome}
use Rattle.std.specs.Simd.{first_chunks}
use Rattle.std.proofs.Math.Seq.{get_or-take, get_or-drop, length-take-le}
use Rattle.std.proofs.Math.Nat.{min-le_left}
use Rattle.pieces.proofs.Chunks.{get_chunk}
use Rattle.units.proofs.Units.{outcome_of_lem}
use Rattle.machine.specs.Answers.{run_outcome}
use Rattle.machine.specs.declared.Ran.{Ran}
use Rattle.machine.specs.Inner.Turns.{covered_by}
use Rattle.machine.proofs.Turn.{in_triples, inside, outside, turn, halt, cheap}

-- the list cut into triples, of which the budget covers so many
module _ (ws : List ℕ) (b : ℕ) {most : ℕ} {cs : List (List ℕ)} (front : cs ≡ first_chunks 3 (length ws / 3) ws) (size : length cs ≡ length ws / 3) (e : most ≡ covered_by (length ws) b / 3) where
  pub till : most ≡ min (length ws / 3) b
  till = e ∙ in_triples (length ws) b

  pub enough : most ≤ length ws / 3
  enough = rw till (min-le_left (length ws / 3) b)

  pub long : length (take most cs) ≡ most
  long = length-take-le most cs (omega (arith, size, enough))

  -- the words of triple n, as the code reads them
  module _ (n : ℕ) (l : n < most) where
    chunk : get_or (take most cs) n [] ≡ take 3 (drop (3 * n) ws)
    chunk = get_or-take most cs n [] l ∙ ap (λ (ds : List (List ℕ)). get_or ds n []) front ∙ get_chunk 3 (length ws / 3) n ws (omega (arith, enough, l))

    word : (k : ℕ) → k < 3 → get_or (get_or (take most cs) n []) k 0 ≡ get_or ws (3 * n + k) 0
    word k h = ap (λ (d : List ℕ). get_or d k 0) chunk ∙ get_or-take 3 (drop (3 * n) ws) k 0 h ∙ get_or-drop (3 * n) ws k 0

    pub read : (s : State) {y : Answered} → y ≡ answered_of (get_or (get_or (take most cs) n []) 0 0) (get_or (get_or (take most cs) n []) 1 0) (get_or (get_or (take most cs) n []) 2 0) s
        → y ≡ answered_of (get_or ws (3 * n) 0) (get_or ws (3 * n + 1) 0) (get_or ws (3 * n + 2) 0) s
    read s h =
        let f : get_or ws (3 * n + 0) 0 ≡ get_or ws (3 * n) 0 = ap (λ (j : ℕ). get_or ws j 0) (omega arith) in
        h ∙ rw (word 0 (omega arith) ∙ f, word 1 (omega arith), word 2 (omega arith)) refl

-- after n of the triples
pub record Turned (ws : List ℕ) (b most : ℕ) (s₀ s : State) (k : Counts) (steps n : ℕ) : Type 0 where
  pub till : most ≡ covered_by (length ws) b / 3
  pub told : steps ≡ n
  pub within : n ≤ most
  pub counted : Within n k
  pub same : run_from b (triples (drop (3 * n) ws)) n k s ≡ run_from b (triples ws) 0 none s₀

pub unturned : {ws : List ℕ} {b most : ℕ} {s : State} {k : Counts} → most ≡ covered_by (length ws) b / 3 → k ≡ none → Turned ws b most s s k 0 0
unturned t e = record { till = t; told = refl; within = omega arith; counted = rw e (within_none 0); same = rw e refl }

module _ {ws : List ℕ} {b most : ℕ} {s₀ s : State} {k : Counts} {steps n : ℕ} (q : Turned ws b most s₀ s k steps n) where
  covers : most ≡ min (length ws / 3) b
  covers = q.till ∙ in_triples (length ws) b

  thrice : 3 * n ≡ n * 3
  thrice = omega arith

  -- in a turn a whole triple is left, and the budget is not spent
  pub here : n < most → (3 * n + 2 < length ws) × (n < b) × (n + 1 ≤ most)
  here l = let h = inside ws b most (3 * n) n covers thrice l in (h.0, h.1, omega (arith, l))

  -- x and t are the triple's answer and the state after it
  module _ (l : n < most) (x : Result Counted Refusal) (t : State)
      (e : answered x t ≡ answered_of (get_or ws (3 * n) 0) (get_or ws (3 * n + 1) 0) (get_or ws (3 * n + 2) 0) s) where
    outcome_is : answer_outcome x t ≡ triple_of (get_or ws (3 * n) 0) (get_or ws (3 * n + 1) 0) (get_or ws (3 * n + 2) 0) s
    outcome_is = outcome_of_lem _ _ _ s e

    unspent : n ≡ b → ⊥
    unspent f = let h = (here l).1 in let z : ⊥ = omega arith in z

    together : (m : Counted) → x ≡ Ok m → Within (n + 1) (plus k (amount m))
    together m d = within_plus n 1 k (amount m) q.counted (cheap x t _ _ _ s outcome_is m d)

    -- the sum of the counts does not overflow
    pub fits : b < 2 ^ 32 → (m : Counted) → x ≡ Ok m → Within most_counts (plus k (amount m))
    fits f m d = within_le (n + 1) most_counts (plus k (amount m)) (omega (arith, (here l).1, f)) (together m d)

    -- nor does that of the steps
    pub few : b < 2 ^ 32 → steps + 1 < 2 ^ 32
    few f = omega (arith, (here l).1, f, q.told)

    pub next : (m : Counted) → x ≡ Ok m → {j : Counts} → j ≡ plus k (amount m) → Turned ws b most s₀ t j (steps + 1) (n + 1)
    next m d f =
        let on : 3 * (n + 1) ≡ 3 * n + 3 = omega arith in
        record {
          till = q.till;
          told = ap (λ (i : ℕ). i + 1) q.told;
          within = (here l).2;
          counted = rw f (together m d);
          same = rw (on, f) (sym (turn b ws (3 * n) n k s (here l).0 x t outcome_is unspent m d) ∙ q.same);
        }

    pub off : (j : Refusal) → x ≡ Err j → ended (number (end_of x)) steps k t ≡ run_from b (triples ws) 0 none s₀
    off j d = rw q.told (sym (halt b ws (3 * n) n k s (here l).0 x t outcome_is unspent j d) ∙ q.same)

  -- after the last turn: as far as the budget covers the list
  pub last : length ws % 3 ≡ 0 → most ≤ n → ended (number (cond (ltb most (length ws / 3)) E.Spent E.Done)) steps k s ≡ run_from b (triples ws) 0 none s₀
  last whole l = rw q.told (outside ws b most (3 * n) n covers thrice k s whole (omega (arith, q.within, l)) ∙ q.same)

-- an answer that is equal to one that was shown right
pub said : {o : RunOutcome} {x y : Ran} (s : State) → x ≡ y → run_outcome y s ≡ o → run_outcome x s ≡ o
said s e f = ap (λ (r : Ran). run_outcome r s) e ∙ f
