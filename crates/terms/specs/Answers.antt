-- The number of each answer: document 01, "Answer numbers", and document 02's wishes.
use Rattle.std.specs.Prelude.{ℕ, List, [], ◌∷◌, get_or}
use Rattle.terms.specs.declared.Refusal.TheVariants as R
use Rattle.terms.specs.declared.End.{End}
use Rattle.terms.specs.declared.End.TheVariants as E

abbrev pub number : End → ℕ
number E.Done = 0
-- "opcode below 0x80 or above 0xdf"
number (E.Refused R.Foreign) = 1
-- "opcode from 0x80 to 0xdf, not documented"
number (E.Refused R.Undocumented) = 2
-- "instruction uses SRC2S, side index above 31"
number (E.Refused R.SideIndex) = 3
-- "vcmpad, side mask word above 0x1ffff"
number (E.Refused R.SideMask) = 4
-- "one of the six pieces has another length"
number E.Lengths = 5
-- "word count not a multiple of 3"; wish 3: "left-over bytes that make no whole triple"
number E.Ragged = 6
-- "budget spent, list not finished"
number E.Spent = 7
-- wish 2: "an unknown name (all up to the first space or line feed)"
number E.Unnamed = 8
-- "anything else amiss"
number E.Amiss = 9
-- "unless the text's only line feed is its last byte"
number E.Unended = 10
-- "an output too short for the whole line"
number E.Short = 11

-- the answers in the order of their numbers
abbrev pub ends : List End
ends = E.Done ∷ E.Refused R.Foreign ∷ E.Refused R.Undocumented ∷ E.Refused R.SideIndex ∷ E.Refused R.SideMask ∷ E.Lengths ∷ E.Ragged ∷ E.Spent ∷ E.Unnamed ∷ E.Amiss ∷ E.Unended ∷ E.Short ∷ []

-- the answer of a number; one above the last is taken for the last
abbrev pub numbered : ℕ → End
numbered n = get_or ends n E.Short
