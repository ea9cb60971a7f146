-- Translation: where the byte of a 13-bit address lies under a stride code, 0 to 3 for strides of 0x10, 0x20, 0x40 and 0x80 bytes.
-- The rules are document 01's, "Translation and the sixteen banks" and, for the layout, "The six lent pieces". A number above 3 counts as 3,
-- so that each definition is total.
use Rattle.std.specs.Prelude.{ℕ, zero, suc, ◌+◌, ◌*◌, ◌-◌, ◌/◌, ◌%◌}

-- "hilo is bit 4"
unfoldable pub hilo_of : ℕ → ℕ
hilo_of a = a / 16 % 2

-- "cell is bits 5-12"
unfoldable pub cell_of : ℕ → ℕ
cell_of a = a / 32 % 256

-- "k is bits 5-7 for code 0, address / 32 for code 1, / 64 for code 2, / 128 for code 3"
unfoldable pub turn_of : ℕ → ℕ → ℕ
turn_of zero a = a / 32 % 8
turn_of (suc zero) a = a / 32
turn_of (suc (suc zero)) a = a / 64
turn_of (suc (suc (suc c))) a = a / 128

-- "bank is (low four bits + k) mod 16"
unfoldable pub bank_of : ℕ → ℕ → ℕ
bank_of c a = (a % 16 + turn_of c a) % 16

-- "The byte DS[bank, cell, hilo] lies at bank x 512 + cell x 2 + hilo": the layout of the lent store
unfoldable pub place_of : ℕ → ℕ → ℕ → ℕ
place_of b k h = b * 512 + k * 2 + h

-- what lies at a place: the layout read backwards
unfoldable pub bank_at : ℕ → ℕ
bank_at p = p / 512

unfoldable pub cell_at : ℕ → ℕ
cell_at p = p % 512 / 2

unfoldable pub hilo_at : ℕ → ℕ
hilo_at p = p % 2

-- the place of an address
unfoldable pub at : ℕ → ℕ → ℕ
at c a = place_of (bank_of c a) (cell_of a) (hilo_of a)

-- a pair (bank, cell) as one number: the 16 x 256 cells in a row
unfoldable pub pair_of : ℕ → ℕ → ℕ
pair_of c a = bank_of c a * 256 + cell_of a

-- the way back, for "one to one onto the 8,192 coordinates": the address of DS[bank, cell, hilo] under a code
unfoldable pub address_of : ℕ → ℕ → ℕ → ℕ → ℕ
address_of c b k h = k * 32 + h * 16 + (b + 16 - turn_of c (k * 32) % 16) % 16

-- the address whose byte lies at a place
unfoldable pub from_place : ℕ → ℕ → ℕ
from_place c p = address_of c (bank_at p) (cell_at p) (hilo_at p)
