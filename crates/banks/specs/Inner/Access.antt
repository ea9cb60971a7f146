-- An access as the code goes through it: its places, and how many cells it enters; cells_are of proofs/Counts says that they are the distinct
-- pairs of its address list.
use Rattle.std.specs.Prelude.{ℕ, zero, suc, ◌+◌, ◌-◌, ◌%◌, List, map}
use Rattle.terms.specs.declared.Way.{Way}
use Rattle.terms.specs.declared.Way.TheVariants.{Horizontal, Vertical, Scalar}
use Rattle.banks.specs.Bank.{at}

-- the place of each address of a list
unfoldable pub places : ℕ → List ℕ → List ℕ
places c list = map (at c) list

-- the cells that an access enters: "all 16 banks, one cell each", "for code 0 .. 8 banks, one cell each", "a scalar access enters 4"
unfoldable pub cells_of : Way → ℕ → ℕ
cells_of Horizontal c = 16
cells_of Vertical zero = 8
cells_of Vertical (suc c) = 16
cells_of Scalar c = 4

-- how many banks further on, round the sixteen, k is than x
abbrev pub behind : ℕ → ℕ → ℕ
behind k x = (k + 16 - x) % 16
