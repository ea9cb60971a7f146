-- The bank of each address of an access. Along a row, and down a column of code 1 to 3, the banks are (x + i) mod 16 for some x: a ring.
-- Down a column of code 0 each bank comes twice running, at one cell's two halves.
use mathlib.Core.Path.{◌≡◌, ap}
use Prim.Native.Nat.{ℕ, zero, suc, ◌+◌, ◌*◌, ◌/◌, ◌%◌, ◌<◌}
use native.Mathlib.Omega.{arith}
use native.Mathlib.Nat.{mod-lt}
use lib.Dec.{lit<}
use Rattle.banks.specs.Bank.{cell_of, hilo_of, turn_of, bank_of}
use Rattle.banks.specs.Line.{stride_of, column_start}

-- ---- a row: addresses one apart, within sixteen

turn_row : (c b i : ℕ) → b % 16 + i < 16 → turn_of c (b + i) ≡ turn_of c b
unfolding turn_of
turn_row zero b i h = omega arith
turn_row (suc zero) b i h = omega arith
turn_row (suc (suc zero)) b i h = omega arith
turn_row (suc (suc (suc c))) b i h = omega arith

pub row_bank : (c b i : ℕ) → b % 16 + i < 16 → bank_of c (b + i * 1) ≡ (b % 16 + turn_of c b + i) % 16
unfolding bank_of
row_bank c b i h =
    let e : b + i * 1 ≡ b + i = omega arith in
    let m : (b + i) % 16 ≡ b % 16 + i = omega arith in
    rw (e, turn_row c b i h, m) (ap (λ (y : ℕ). y % 16) (omega arith))

-- ---- a column: addresses a stride apart

stride_pos : (c : ℕ) → 0 < stride_of c
unfolding stride_of
stride_pos zero = omega arith
stride_pos (suc zero) = omega arith
stride_pos (suc (suc zero)) = omega arith
stride_pos (suc (suc (suc c))) = omega arith

column_low : (c q l i : ℕ) → (q * (stride_of c * 16) + l + i * stride_of c) % 16 ≡ l % 16
unfolding stride_of
column_low zero q l i = omega arith
column_low (suc zero) q l i = omega arith
column_low (suc (suc zero)) q l i = omega arith
column_low (suc (suc (suc c))) q l i = omega arith

column_turn : (c q l i : ℕ) → l < stride_of (suc c)
    → turn_of (suc c) (q * (stride_of (suc c) * 16) + l + i * stride_of (suc c)) ≡ q * 16 + i
unfolding turn_of stride_of
column_turn zero q l i h = omega arith
column_turn (suc zero) q l i h = omega arith
column_turn (suc (suc c)) q l i h = omega arith

-- codes 1 to 3
pub column_bank : (c a i : ℕ) → bank_of (suc c) (column_start (suc c) a + i * stride_of (suc c)) ≡ (a % stride_of (suc c) % 16 + i) % 16
unfolding bank_of column_start
column_bank c a i =
    let s = stride_of (suc c) in
    let q = a % 8192 / (s * 16) in
    let l = a % s in
    rw (column_turn c q l i (mod-lt a (stride_pos (suc c))), column_low (suc c) q l i) (omega arith)

-- code 0
halves : (q l i : ℕ) → l < 16 → (q * 256 + l + i * 16) / 32 ≡ q * 8 + i / 2
halves q l i h = omega arith

module _ (a : ℕ) where
  pub column0_bank : (i : ℕ) → i < 16 → bank_of 0 (column_start 0 a + i * stride_of 0) ≡ (a % 16 + i / 2) % 16
  unfolding bank_of turn_of column_start stride_of
  column0_bank i h =
      let q = a % 8192 / 256 in
      let e : (q * 8 + i / 2) % 8 ≡ i / 2 = omega arith in
      rw (halves q (a % 16) i (mod-lt a (lit< tt)), e, column_low 0 q (a % 16) i) (ap (λ (x : ℕ). x % 16) (omega arith))

  pub column0_cell : (i : ℕ) → i < 16 → cell_of (column_start 0 a + i * stride_of 0) ≡ a % 8192 / 256 * 8 + i / 2
  unfolding cell_of column_start stride_of
  column0_cell i h = let q = a % 8192 / 256 in rw (halves q (a % 16) i (mod-lt a (lit< tt))) (omega arith)

  pub column0_hilo : (i : ℕ) → hilo_of (column_start 0 a + i * stride_of 0) ≡ i % 2
  unfolding hilo_of column_start stride_of
  column0_hilo i =
      let q = a % 8192 / 256 in
      let e : (q * 256 + a % 16 + i * 16) / 16 ≡ q * 16 + i = omega arith in
      rw e (omega arith)
