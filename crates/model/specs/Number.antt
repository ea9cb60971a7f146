-- Places as numbers: the numbering that docs/PLACES.md fixes.
use Rattle.std.specs.Prelude.{ℕ, ◌+◌, ◌*◌, List, map, ◌++◌}
use Rattle.words.specs.Insn.{Insn}
use Rattle.pieces.specs.State.{State, A, R, C, VC}
use Rattle.terms.specs.declared.Half.{Half}
use Rattle.terms.specs.declared.Half.TheVariants.{Low, High}
use Rattle.pieces.specs.Place.{Place, at, vec, byte, xlat}
use Rattle.model.specs.Table.{reads, writes}

-- the halves of $a from 0, $r from 64, $v from 96, the flags of $c from 128, of $vc from 136, the data store's bytes from 144
abbrev pub side : Half → ℕ
side Low = 0
side High = 1

abbrev pub number : Place → ℕ
number (at A n h) = 2 * n + side h
number (at R n h) = 64 + n
number (vec n) = 96 + n
number (at C n h) = 128 + (2 * n + side h)
number (at VC n h) = 136 + (2 * n + side h)
number (byte b) = 144 + b

-- what an instruction reads and writes in a state, as numbers, in the table's order
unfoldable pub reads_of : Insn → State → List ℕ
reads_of i s = map number (reads xlat i s)

unfoldable pub writes_of : Insn → State → List ℕ
writes_of i s = map number (writes xlat i s)

abbrev pub touches_of : Insn → State → List ℕ
touches_of i s = reads_of i s ++ writes_of i s
