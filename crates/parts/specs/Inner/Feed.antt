-- Feeding a run, as the code does it: where it stands, what a stretch of whole triples leaves of it.
use Rattle.std.specs.Prelude.{ℕ, ◌+◌, ◌*◌, ◌/◌, ◌<◌, ◌≤◌, ◌≡◌, true, false, cond, List, [], ◌∷◌, eqb, ltb, length, get_or, take, drop}
use Rattle.terms.specs.Answers.{number}
use Rattle.terms.specs.Counts.{Within}
use Rattle.terms.specs.declared.Counts.{Counts}
use Rattle.terms.specs.declared.End.{End}
use Rattle.terms.specs.declared.End.TheVariants as E
use Rattle.machine.specs.declared.Ran.{Ran}
use Rattle.model.specs.Address.{joined}
use Rattle.model.specs.Parts.{Parts, parts}
use Rattle.parts.specs.declared.Run.{Run}

-- a run that is not over, within its bounds
pub record Open (x : Run) : Type 0 where
  pub going : x.over ≡ false
  pub budgeted : x.steps ≤ x.budget
  pub counted : Within x.steps x.counts
  pub few : x.count < 12

-- its state
abbrev pub open_of : Run → Parts
open_of x = parts x.budget false 0 x.steps x.counts (take x.count x.held)

-- the struct of a run that is not over
abbrev pub going_by : ℕ → ℕ → Counts → ℕ → List ℕ → Run
going_by b n c k h = record { budget = b; over = false; end = E.Done; steps = n; counts = c; count = k; held = h }

-- the same struct, over with an answer
abbrev pub kept_by : End → Run → Run
kept_by e x = record { budget = x.budget; over = true; end = e; steps = x.steps; counts = x.counts; count = x.count; held = x.held }

-- after whole triples, the last bytes of which came in `rest`
abbrev pub closing : ℕ → Ran → List ℕ → Parts
closing b x rest =
    cond (eqb (number x.end) 0)
    (parts b false 0 x.steps x.counts (drop (length rest / 12 * 12) rest))
    (parts b true (number x.end) x.steps x.counts [])

-- the word of four bytes
abbrev pub word_at : List ℕ → ℕ → ℕ
word_at bs i = joined (get_or bs i 0 ∷ get_or bs (i + 1) 0 ∷ get_or bs (i + 2) 0 ∷ get_or bs (i + 3) 0 ∷ [])

-- how many words the buffer takes next
abbrev pub room_of : ℕ → ℕ
room_of count = cond (ltb count 1920) (count / 4) 480
