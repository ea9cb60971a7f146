-- The address list of an access; how many different numbers a list holds, and which of its pairs lie in a bank.
-- The rules are document 01's, "Translation and the sixteen banks"; what is counted is said under "Answer numbers".
use Rattle.std.specs.Prelude.{ℕ, zero, suc, ◌+◌, ◌*◌, ◌/◌, ◌%◌, Bool, false, cond, ◌||◌, List, [], ◌∷◌, map, eqb}
use Rattle.terms.specs.declared.Way.{Way}
use Rattle.terms.specs.declared.Way.TheVariants.{Horizontal, Vertical, Scalar}

-- i, i + 1, .. : n numbers
abbrev pub from : ℕ → ℕ → List ℕ
from i zero = []
from i (suc n) = i ∷ from (suc i) n

-- n addresses from a start, a step apart
unfoldable pub line : ℕ → ℕ → ℕ → List ℕ
line start step n = map (λ i. start + i * step) (from 0 n)

-- the stride in bytes: "0 to 3 for 0x10, 0x20, 0x40, 0x80 bytes"
unfoldable pub stride_of : ℕ → ℕ
stride_of zero = 0x10
stride_of (suc zero) = 0x20
stride_of (suc (suc zero)) = 0x40
stride_of (suc (suc (suc c))) = 0x80

-- "Horizontal: address AND 0x1ff0"
unfoldable pub row_start : ℕ → ℕ
row_start a = a % 8192 / 16 * 16

-- "Scalar: AND 0x1ffc"
unfoldable pub word_start : ℕ → ℕ
word_start a = a % 8192 / 4 * 4

-- "Vertical: AND 0x1fff, bits 4+code to 7+code cleared": what is above the sixteen strides, and what is below one
unfoldable pub column_start : ℕ → ℕ → ℕ
column_start c a = a % 8192 / (stride_of c * 16) * (stride_of c * 16) + a % stride_of c

unfoldable pub start_of : Way → ℕ → ℕ → ℕ
start_of Horizontal c a = row_start a
start_of Vertical c a = column_start c a
start_of Scalar c a = word_start a

-- "in a row", or "then those bits run from 0 to 15": a stride apart
unfoldable pub step_of : Way → ℕ → ℕ
step_of Horizontal c = 1
step_of Vertical c = stride_of c
step_of Scalar c = 1

-- "then 16 in a row", "from 0 to 15", "then 4"
abbrev pub count_of : Way → ℕ
count_of Horizontal = 16
count_of Vertical = 16
count_of Scalar = 4

-- the address list of an access
unfoldable pub addresses : Way → ℕ → ℕ → List ℕ
addresses w c a = line (start_of w c a) (step_of w c) (count_of w)

abbrev pub has : ℕ → List ℕ → Bool
has x [] = false
has x (y ∷ ys) = eqb x y || has x ys

-- how many different numbers a list holds: with pair_of, "the number of distinct (bank, cell) pairs"
abbrev pub distinct : List ℕ → ℕ
distinct [] = zero
distinct (x ∷ xs) = cond (has x xs) (distinct xs) (suc (distinct xs))

-- the pairs of a list that lie in one bank: pair_of puts the bank above the 256 cells
abbrev pub of_bank : ℕ → List ℕ → List ℕ
of_bank b [] = []
of_bank b (p ∷ ps) = cond (eqb (p / 256) b) (p ∷ of_bank b ps) (of_bank b ps)

-- the sum of a list of numbers
abbrev pub total : List ℕ → ℕ
total [] = 0
total (x ∷ xs) = x + total xs
