-- What the struct `Run` stands for: the state of a run in parts.
use Rattle.std.specs.Prelude.{ℕ, Bool, true, cond, ◌&&◌, List, [], ◌∷◌, leb, ltb, length, get_or, take}
use Rattle.terms.specs.Answers.{number, numbered}
use Rattle.terms.specs.Counts.{none, within_of}
use Rattle.terms.specs.declared.End.TheVariants as E
use Rattle.pieces.specs.State.{State}
use Rattle.model.specs.Parts.{Parts, parts, Went}
use Rattle.parts.specs.declared.Run.{Run}

-- the answer that is given
abbrev pub answer_of : Run → ℕ
answer_of r = cond r.over (number r.end) 0

-- whether it is within the bounds of every run: no more steps than the budget, no more counted than they can count, fewer bytes left over than a triple's twelve, one of a run's
-- answers, 0 to 7
abbrev pub sound : Run → Bool
sound r = leb r.steps r.budget && within_of r.steps r.counts && ltb r.count 12 && leb (answer_of r) 7

-- the state; what is out of these bounds is taken for a run that was refused with 5 before its first step
unfoldable pub meant_by : Run → Parts
meant_by r =
    cond (sound r)
    (parts r.budget r.over (answer_of r) r.steps r.counts (take r.count r.held))
    (parts 0 true (number E.Lengths) 0 none [])

-- twelve bytes of a list; 0 where it has no more
abbrev pub twelve : List ℕ → List ℕ
twelve l = get_or l 0 0 ∷ get_or l 1 0 ∷ get_or l 2 0 ∷ get_or l 3 0 ∷ get_or l 4 0 ∷ get_or l 5 0 ∷ get_or l 6 0 ∷ get_or l 7 0 ∷ get_or l 8 0 ∷ get_or l 9 0 ∷ get_or l 10 0 ∷ get_or l 11 0 ∷ []

-- the struct that a call hands back for a state
unfoldable pub struct_of : Parts → Run
struct_of p = record {
  budget = p.budget;
  over = p.over;
  end = numbered p.number;
  steps = p.steps;
  counts = p.counts;
  count = length p.left;
  held = twelve p.left;
}

-- what a part leaves: the struct, the six pieces
pub record Handed : Type 0 where
  pub run : Run
  pub after : State

abbrev pub given : Run → State → Handed
given r s = record { run = r; after = s }

abbrev pub handed : Went → Handed
handed w = given (struct_of w.run) w.after
