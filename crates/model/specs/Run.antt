-- A list of triples under a budget of steps. Document 01, "Answer numbers".
use Rattle.std.specs.Prelude.{ℕ, zero, suc, ◌+◌, ◌/◌, ◌%◌, cond, List, [], ◌∷◌, eqb, length, get_or, drop}
use Rattle.terms.specs.Answers.{number}
use Rattle.terms.specs.Counts.{none, plus}
use Rattle.terms.specs.declared.Counts.{Counts}
use Rattle.terms.specs.declared.End.TheVariants as E
use Rattle.pieces.specs.State.{State, sized_of}
use Rattle.model.specs.Step.{Outcome, triple_of}

pub record Triple : Type 0 where
  pub word : ℕ
  pub side : ℕ
  pub mask : ℕ

-- the first n triples of a list of words
abbrev pub first_triples : ℕ → List ℕ → List Triple
first_triples zero ws = []
first_triples (suc n) ws = record { word = get_or ws 0 0; side = get_or ws 1 0; mask = get_or ws 2 0 } ∷ first_triples n (drop 3 ws)

-- the list's triples
unfoldable pub triples : List ℕ → List Triple
triples ws = first_triples (length ws / 3) ws

-- what the list call leaves: the answer's number, the steps done, what they counted, the six pieces
pub record RunOutcome : Type 0 where
  pub number : ℕ
  pub steps : ℕ
  pub counts : Counts
  pub after : State

abbrev pub ended : ℕ → ℕ → Counts → State → RunOutcome
ended e n c s = record { number = e; steps = n; counts = c; after = s }

-- "Before each triple: all done gives 0; else steps equal to the budget gives 7; else one step", which stops the run where it is refused.
-- n steps are done and have counted c
unfoldable pub run_from : ℕ → List Triple → ℕ → Counts → State → RunOutcome
run_from budget [] n c s = ended (number E.Done) n c s
run_from budget (t ∷ ts) n c s =
    let o : Outcome = triple_of t.word t.side t.mask s in
    cond (eqb n budget) (ended (number E.Spent) n c s)
    (cond (eqb o.number 0) (run_from budget ts (n + 1) (plus c o.counts) o.after)
    (ended o.number n c o.after))

-- 5, then 6, once at the start
unfoldable pub run_of : ℕ → List ℕ → State → RunOutcome
run_of budget ws s =
    cond (sized_of s)
    (cond (eqb (length ws % 3) 0) (run_from budget (triples ws) 0 none s) (ended (number E.Ragged) 0 none s))
    (ended (number E.Lengths) 0 none s)
