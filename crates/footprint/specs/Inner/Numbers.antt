-- The numbers of some places: an array of twenty-two that is filled from the start.
use Rattle.std.specs.Prelude.{◌≡◌, ℕ, ◌+◌, cond, List, [], ◌∷◌, ltb, take, set, replicate}
use Rattle.words.specs.declared.Fields.{Fields}
use Rattle.words.specs.Address.{Address}
use Rattle.words.specs.Insn.{Insn}
use Rattle.pieces.specs.State.{State, state}
use Rattle.pieces.specs.Place.{Place, vec, xlat}
use Rattle.model.specs.Table.{flags_of, reads, writes, reads_a, writes_a}
use Rattle.model.specs.Number.{number}
use Rattle.footprint.specs.declared.Numbers.{Numbers}
use Rattle.footprint.specs.declared.Touches.{Touches}

abbrev pub nothing : Numbers
nothing = record { numbers = replicate 22 0; count = 0 }

-- with one number more, where there is room
unfoldable pub push : Numbers → ℕ → Numbers
push l x = cond (ltb l.count 22) (record { numbers = set l.numbers l.count x; count = l.count + 1 }) l

-- with some places more
unfoldable pub pushed : Numbers → List Place → Numbers
pushed l [] = l
pushed l (p ∷ ps) = pushed (push l (number p)) ps

-- r is l with some places more
pub record Adds (l : Numbers) (ps : List Place) (r : Numbers) : Type 0 where
  pub is : r ≡ pushed l ps

-- what it lists
abbrev pub held : Numbers → List ℕ
held l = take l.count l.numbers

-- all that is read, then all that is written
unfoldable pub touched : List Place → List Place → Touches
touched ps qs = record { list = pushed (pushed nothing ps) qs; reads = (pushed nothing ps).count }

-- the table looks at $a alone, so a state of $a is enough
abbrev pub lent : List ℕ → State
lent a = state [] a [] [] [] []

abbrev pub addressed : Address → List ℕ → Touches
addressed i a = touched (reads_a xlat i (lent a)) (writes_a xlat i (lent a))

abbrev pub footprint_of : Insn → State → Touches
footprint_of i s = touched (reads xlat i s) (writes xlat i s)

-- the three source registers of a vector instruction, and its result with the flags
abbrev pub sources_in : Fields → List Place
sources_in f = vec f.src1 ∷ vec f.src2 ∷ vec f.src3 ∷ []

abbrev pub flagged_in : Fields → List Place
flagged_in f = vec f.dst ∷ flags_of f.flags
