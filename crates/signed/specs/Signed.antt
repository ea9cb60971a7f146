-- A byte as a signed number, and back.
use Rattle.std.specs.Prelude.{Bool, true, false, cond, ℕ, suc, ◌-◌, ◌+◌, ◌%◌, ◌^◌, ltb, eqb, ℤ, pos, negsuc, ◌-ℤ◌, ◌*ℤ◌}
use Rattle.std.specs.Int.Signed.{lt_z, shr_z}

-- the chapter's sext(x, k): the low k + 1 bits of x, of which bit k is the sign
unfoldable pub sext : ℕ → ℕ → ℤ
sext x k = let n = x % 2 ^ (k + 1) in cond (ltb n (2 ^ k)) (pos n) (pos n -ℤ pos (2 ^ (k + 1)))

-- a component as the signed and the unsigned forms read it
unfoldable pub widen : Bool → ℕ → ℤ
widen true x = sext x 7
widen false x = pos x

-- the low k bits of z in two's complement
unfoldable pub low : ℕ → ℤ → ℕ
low k (pos n) = n % 2 ^ k
low k (negsuc n) = 2 ^ k - 1 - n % 2 ^ k

abbrev pub is_zero : ℤ → Bool
is_zero (pos n) = eqb n 0
is_zero (negsuc n) = false

-- res < lo: res = lo; res > hi: res = hi
unfoldable pub clip : ℤ → ℤ → ℤ → ℤ
clip lo hi z = cond (lt_z z lo) lo (cond (lt_z hi z) hi z)

-- shift < 0: s << -shift; else s >> shift, rounded down
unfoldable pub shifted : ℤ → ℤ → ℤ
shifted s (pos n) = shr_z s (2 ^ n)
shifted s (negsuc n) = s *ℤ pos (2 ^ suc n)
