-- A bit operation by its truth table.
use Rattle.std.specs.Prelude.{Bool, cond, ℕ, zero, suc, ◌+◌, ◌*◌, ◌/◌, ◌%◌, ◌^◌, eqb}

-- bit k of n
abbrev pub bit : ℕ → ℕ → Bool
bit k n = eqb (n / 2 ^ k % 2) 1

-- n bits of a and b: each bit of the result is bit (a's bit + 2 * b's bit) of op
unfoldable pub bitop : ℕ → ℕ → ℕ → ℕ → ℕ
bitop zero op a b = 0
bitop (suc n) op a b = bitop n op (a / 2) (b / 2) * 2 + cond (bit (a % 2 + 2 * (b % 2)) op) 1 0
