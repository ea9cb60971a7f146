-- The state of a run in parts as sixteen words of 32 bits, for C. Any sixteen words are some state.
use Rattle.std.specs.Prelude.{ℕ, ◌+◌, ◌*◌, ◌/◌, ◌%◌, not, cond, List, [], ◌∷◌, ◌++◌, eqb, length, get_or}
use Rattle.terms.specs.Answers.{number, numbered}
use Rattle.terms.specs.Counts.{counts, none}
use Rattle.terms.specs.declared.Counts.{Counts}
use Rattle.terms.specs.declared.End.TheVariants as E
use Rattle.pieces.specs.State.{State}
use Rattle.model.specs.Address.{split}
use Rattle.model.specs.Parts.{first_words, begun, part_of, end_of}
use Rattle.parts.specs.Run.{Handed, handed, meant_by, struct_of}
use Rattle.parts.specs.declared.Run.{Run}

-- the words of a struct: the budget; 1 where it is over, else 0; the answer's number; the steps; the accesses, low half first; how many bytes are left over, and
-- these, low byte first; the clipped components, low half first; then words that are 0
unfoldable pub worded : Run → List ℕ
worded r =
    (r.budget ∷ cond r.over 1 0 ∷ number r.end ∷ r.steps ∷ r.counts.accesses % 4294967296 ∷ r.counts.accesses / 4294967296 ∷ r.count ∷ [])
    ++ first_words 3 r.held
    ++ (r.counts.clipped % 4294967296 ∷ r.counts.clipped / 4294967296 ∷ 0 ∷ 0 ∷ 0 ∷ 0 ∷ [])

-- the struct of sixteen words: it is over where the second is not 0; the last four do not matter
unfoldable pub unworded : List ℕ → Run
unworded ws = record {
  budget = get_or ws 0 0;
  over = not (eqb (get_or ws 1 0) 0);
  end = numbered (get_or ws 2 0);
  steps = get_or ws 3 0;
  counts = counts (get_or ws 4 0 + get_or ws 5 0 * 4294967296) (get_or ws 10 0 + get_or ws 11 0 * 4294967296);
  count = get_or ws 6 0;
  held = split (get_or ws 7 0) ++ split (get_or ws 8 0) ++ split (get_or ws 9 0);
}

-- ---- the calls

-- what a call leaves: the answer's number, the steps done, what they counted, the words; of a part, the six pieces too
pub record Told : Type 0 where
  pub number : ℕ
  pub steps : ℕ
  pub counts : Counts
  pub words : List ℕ

abbrev pub told : ℕ → ℕ → Counts → List ℕ → Told
told e n c ws = record { number = e; steps = n; counts = c; words = ws }

pub record PartTold : Type 0 where
  pub run : Told
  pub after : State

abbrev pub part_told : Told → State → PartTold
part_told t s = record { run = t; after = s }

-- the run as a call tells it
abbrev pub telling : Run → Told
telling r = told (number r.end) r.steps r.counts (worded r)

-- words of another length: 5, and nothing changes
abbrev pub unlent : List ℕ → Told
unlent ws = told (number E.Lengths) 0 none ws

unfoldable pub begin_call : ℕ → List ℕ → Told
begin_call budget ws = cond (eqb (length ws) 16) (telling (struct_of (begun budget))) (unlent ws)

unfoldable pub part_call : List ℕ → List ℕ → State → PartTold
part_call bs ws s =
    let h : Handed = handed (part_of bs (meant_by (unworded ws)) s) in
    cond (eqb (length ws) 16) (part_told (telling h.run) h.after) (part_told (unlent ws) s)

unfoldable pub end_call : List ℕ → Told
end_call ws = cond (eqb (length ws) 16) (telling (struct_of (end_of (meant_by (unworded ws))))) (unlent ws)
