-- A list that arrives in parts, as bytes. Document 02, wish 3.
use Rattle.std.specs.Prelude.{ℕ, zero, suc, ◌/◌, Bool, true, false, not, cond, List, [], ◌∷◌, ◌++◌, eqb, ltb, length, get_or, drop}
use Rattle.terms.specs.Answers.{number}
use Rattle.terms.specs.Counts.{none}
use Rattle.terms.specs.declared.Counts.{Counts}
use Rattle.terms.specs.declared.End.TheVariants as E
use Rattle.pieces.specs.State.{State, sized_of}
use Rattle.model.specs.Address.{joined, split}
use Rattle.model.specs.Run.{RunOutcome, triples, run_from}

-- ---- bytes and words: "each 32-bit word low byte first"

-- the first n words of a list of bytes
abbrev pub first_words : ℕ → List ℕ → List ℕ
first_words zero bs = []
first_words (suc n) bs = joined (get_or bs 0 0 ∷ get_or bs 1 0 ∷ get_or bs 2 0 ∷ get_or bs 3 0 ∷ []) ∷ first_words n (drop 4 bs)

-- the words of a list of bytes
unfoldable pub words_of : List ℕ → List ℕ
words_of bs = first_words (length bs / 4) bs

-- the bytes of a list of words
abbrev pub bytes_of : List ℕ → List ℕ
bytes_of [] = []
bytes_of (w ∷ ws) = split w ++ bytes_of ws

-- ---- a run in parts

-- what is kept of it between two calls
pub record Parts : Type 0 where
  pub budget : ℕ
  -- "After a refusal, a spent budget or the end call nothing changes": whether it is so
  pub over : Bool
  -- the answer that is given: 0 while all is well, then the one that is kept
  pub number : ℕ
  -- the steps done, and what they counted
  pub steps : ℕ
  pub counts : Counts
  -- the "unfinished bytes"
  pub left : List ℕ

abbrev pub parts : ℕ → Bool → ℕ → ℕ → Counts → List ℕ → Parts
parts b o e n c l = record { budget = b; over = o; number = e; steps = n; counts = c; left = l }

-- what a part leaves: the run, the six pieces
pub record Went : Type 0 where
  pub run : Parts
  pub after : State

abbrev pub went : Parts → State → Went
went p s = record { run = p; after = s }

-- a new run
abbrev pub begun : ℕ → Parts
begun budget = parts budget false (number E.Done) 0 none []

-- "the same answer and counts are given until a new run is begun": a run that is over with this answer
abbrev pub kept : ℕ → Parts → Parts
kept e p = parts p.budget true e p.steps p.counts p.left

-- after a triple: the run is over where that was refused or the budget was spent
abbrev pub met : ℕ → RunOutcome → Went
met budget o = went (parts budget (not (eqb o.number 0)) o.number o.steps o.counts []) o.after

-- a byte arrives. "A triple is taken up at its twelfth byte", as it is in a list: the budget is looked at, then one step is done
unfoldable pub taken : ℕ → Parts → State → Went
taken b p s =
    let bs : List ℕ = p.left ++ (b ∷ []) in
    cond (ltb (length bs) 12)
    (went (parts p.budget p.over p.number p.steps p.counts bs) s)
    (met p.budget (run_from p.budget (triples (words_of bs)) p.steps p.counts s))

-- one byte after the other, until the run is over
unfoldable pub fed : List ℕ → Parts → State → Went
fed [] p s = went p s
fed (b ∷ bs) p s = cond p.over (went p s) (let w : Went = taken b p s in fed bs w.run w.after)

-- a part. "Refusals: a kept answer first, then 5"; "a part answers 0 while all is well"
unfoldable pub part_of : List ℕ → Parts → State → Went
part_of bs p s = cond p.over (went p s) (cond (sized_of s) (fed bs p s) (went (kept (number E.Lengths) p) s))

-- the end call. "6 comes only at the end call, for left-over bytes that make no whole triple, and the steps done stand"
unfoldable pub end_of : Parts → Parts
end_of p = cond p.over p (kept (cond (eqb (length p.left) 0) (number E.Done) (number E.Ragged)) p)

-- ---- a list that is cut

-- parts one after the other, on pieces that nobody else changes
abbrev pub parts_of : List (List ℕ) → Parts → State → Went
parts_of [] p s = went p s
parts_of (bs ∷ cut) p s = let w : Went = part_of bs p s in parts_of cut w.run w.after

-- the bytes of a cut list
abbrev pub whole : List (List ℕ) → List ℕ
whole [] = []
whole (bs ∷ cut) = bs ++ whole cut

-- a run begun, fed in parts, and ended
abbrev pub in_parts : ℕ → List (List ℕ) → State → Went
in_parts budget cut s = let w : Went = parts_of cut (begun budget) s in went (end_of w.run) w.after
