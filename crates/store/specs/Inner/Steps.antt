-- The places of an access without its addresses: from a first place on, step by step round the store, or a line's place in each bank.
-- Inner to this crate; a line is the sixteen bytes with one value of cell x 2 + hilo.
use Rattle.std.specs.Prelude.{ℕ, ◌+◌, ◌*◌, ◌/◌, ◌%◌, List, map}
use Rattle.banks.specs.Line.{from}

-- what g makes of 0, 1, .. : n numbers
unfoldable pub upto : (ℕ → ℕ) → ℕ → List ℕ
upto g n = map g (from 0 n)

-- i steps on
unfoldable pub stepped : ℕ → ℕ → ℕ → ℕ
stepped first step i = (first + i * step) % 8192

-- down a column of code 0: the halves of a cell, and the next bank's cell
unfoldable pub paired : ℕ → ℕ → ℕ
paired first i = stepped first 514 (i / 2) + i % 2

-- a line's byte in a bank, the banks counted round
unfoldable pub in_bank : ℕ → ℕ → ℕ
in_bank line k = 512 * (k % 16) + line
