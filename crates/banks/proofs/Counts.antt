-- How many banks, cells and bytes an access enters, for every address and code: document 01's figures.
use mathlib.Core.Path.{◌≡◌, refl, sym, ap, ◌∙◌}
use mathlib.Core.Bool.{true}
use mathlib.Core.List.{List, map}
use Prim.Native.Nat.{ℕ, zero, suc, ◌+◌, ◌*◌, ◌-◌, ◌/◌, ◌%◌, ◌≤◌, ◌<◌}
use native.Mathlib.Omega.{arith}
use lib.Dec.{lit≤}
use Rattle.banks.specs.Bank.{bank_of, bank_at, at, pair_of}
use Rattle.banks.specs.Line.{line, stride_of, row_start, word_start, column_start, has, distinct, addresses, start_of, step_of}
use Rattle.banks.specs.Inner.Access.{cells_of}
use Rattle.terms.specs.declared.Way.{Way}
use Rattle.terms.specs.declared.Way.TheVariants.{Horizontal, Vertical, Scalar}
use Rattle.banks.proofs.OneToOne.{cell_lt, one_to_one, at_coords}
use Rattle.banks.proofs.Distinct.{line_distinct, line_has, two_and_two}
use Rattle.banks.proofs.Banks.{row_bank, column_bank, column0_bank, column0_cell}

-- how many banks, (bank, cell) pairs and bytes a list of addresses has. As many pairs as banks: one cell of each bank
pub record Enters (c : ℕ) (list : List ℕ) (banks cells bytes : ℕ) : Type 0 where
  pub of_banks : distinct (map (bank_of c) list) ≡ banks
  pub of_cells : distinct (map (pair_of c) list) ≡ cells
  pub of_bytes : distinct (map (at c) list) ≡ bytes

pair_bank : (c a b : ℕ) → pair_of c a ≡ pair_of c b → bank_of c a ≡ bank_of c b
unfolding pair_of
pair_bank c a b e = omega (arith, cell_lt a, cell_lt b)

at_bank : (c a b : ℕ) → at c a ≡ at c b → bank_of c a ≡ bank_of c b
at_bank c a b e = sym (at_coords c a).bank ∙ ap bank_at e ∙ (at_coords c b).bank

pub slot : (x i j : ℕ) → i < 16 → j < 16 → (x + i) % 16 ≡ (x + j) % 16 → i ≡ j
slot x i j hi hj e = omega arith

-- a line whose banks follow each other round the sixteen
module _ (c b s n x : ℕ) (h : n ≤ 16) (ring : (i : ℕ) → i < n → bank_of c (b + i * s) ≡ (x + i) % 16) where
  pub apart : (i j : ℕ) → i < n → j < n → bank_of c (b + i * s) ≡ bank_of c (b + j * s) → i ≡ j
  apart i j hi hj e = slot x i j (omega arith) (omega arith) (sym (ring i hi) ∙ e ∙ ring j hj)

  ring_enters : Enters c (line b s n) n n n
  ring_enters =
      record {
        of_banks = line_distinct (bank_of c) b s n apart;
        of_cells = line_distinct (pair_of c) b s n (λ i j hi hj e. apart i j hi hj (pair_bank c _ _ e));
        of_bytes = line_distinct (at c) b s n (λ i j hi hj e. apart i j hi hj (at_bank c _ _ e));
      }

  ring_has : n ≡ 16 → (k : ℕ) → k < 16 → has k (map (bank_of c) (line b s n)) ≡ true
  ring_has full k hk =
      let i = (k + 16 - x % 16) % 16 in
      let l : i < n = omega arith in
      let e : (x + i) % 16 ≡ k = omega arith in
      ap (λ (m : ℕ). has m (map (bank_of c) (line b s n))) (sym (ring i l ∙ e)) ∙ line_has (bank_of c) b s n i l

-- ---- "A horizontal access enters all 16 banks, one cell each", "a scalar access enters 4"

module _ (c a : ℕ) where
  pub horizontal_enters : Enters c (addresses Horizontal c a) 16 16 16
  unfolding addresses start_of step_of row_start
  horizontal_enters = ring_enters c (row_start a) 1 16 _ (lit≤ tt) (λ i h. row_bank c (row_start a) i (omega arith))

  pub horizontal_banks : (k : ℕ) → k < 16 → has k (map (bank_of c) (addresses Horizontal c a)) ≡ true
  unfolding addresses start_of step_of row_start
  horizontal_banks = ring_has c (row_start a) 1 16 _ (lit≤ tt) (λ i h. row_bank c (row_start a) i (omega arith)) refl

  pub scalar_enters : Enters c (addresses Scalar c a) 4 4 4
  unfolding addresses start_of step_of word_start
  scalar_enters = ring_enters c (word_start a) 1 4 _ (lit≤ tt) (λ i h. row_bank c (word_start a) i (omega arith))

  -- ---- "A vertical one does too for codes 1 to 3"

  pub vertical_enters : Enters (suc c) (addresses Vertical (suc c) a) 16 16 16
  unfolding addresses start_of step_of
  vertical_enters = ring_enters (suc c) _ _ 16 _ (lit≤ tt) (λ i h. column_bank c a i)

  pub vertical_banks : (k : ℕ) → k < 16 → has k (map (bank_of (suc c)) (addresses Vertical (suc c) a)) ≡ true
  unfolding addresses start_of step_of
  vertical_banks = ring_has (suc c) _ _ 16 _ (lit≤ tt) (λ i h. column_bank c a i) refl

-- ---- "for code 0 it enters 8 banks, one cell each, both halves": 16 bytes of 8 cells; which they are, says OneCell.antt

module _ (a : ℕ) where
  bank8 : ℕ → ℕ
  bank8 k = (a % 16 + k) % 16

  pair8 : ℕ → ℕ
  pair8 k = bank8 k * 256 + (a % 8192 / 256 * 8 + k)

  -- the i-th address
  abbrev nth : ℕ → ℕ
  nth i = column_start 0 a + i * stride_of 0

  nth_pair : (i : ℕ) → i < 16 → pair_of 0 (nth i) ≡ pair8 (i / 2)
  unfolding pair_of pair8 bank8
  nth_pair i h = rw (column0_bank a i h, column0_cell a i h)

  nth_lt : (i : ℕ) → i < 16 → nth i < 8192
  unfolding column_start stride_of
  nth_lt i h = omega arith

  bank8_inj : (i j : ℕ) → i < 8 → j < 8 → bank8 i ≡ bank8 j → i ≡ j
  unfolding bank8
  bank8_inj i j hi hj e = slot (a % 16) i j (omega arith) (omega arith) e

  bank8_lt : (i : ℕ) → bank8 i < 16
  unfolding bank8
  bank8_lt i = omega arith

  pair8_inj : (i j : ℕ) → i < 8 → j < 8 → pair8 i ≡ pair8 j → i ≡ j
  unfolding pair8
  pair8_inj i j hi hj e =
      let q : a % 8192 / 256 * 8 < 249 = omega arith in
      bank8_inj i j hi hj (omega (arith, bank8_lt i, bank8_lt j))

  pub vertical0_enters : Enters 0 (addresses Vertical 0 a) 8 8 16
  unfolding addresses start_of step_of stride_of bank8
  vertical0_enters =
      record {
        of_banks = two_and_two (bank_of 0) bank8 (column_start 0 a) (stride_of 0) (column0_bank a) bank8_inj;
        of_cells = two_and_two (pair_of 0) pair8 (column_start 0 a) (stride_of 0) nth_pair pair8_inj;
        of_bytes = line_distinct (at 0) (column_start 0 a) (stride_of 0) 16 (λ i j hi hj e.
            let q = one_to_one 0 _ _ (nth_lt i hi) (nth_lt j hj) e in omega arith);
      }

-- ---- the three ways and the four codes together

pub cells_are : (w : Way) (c a : ℕ) → distinct (map (pair_of c) (addresses w c a)) ≡ cells_of w c
unfolding cells_of
cells_are Horizontal c a = (horizontal_enters c a).of_cells
cells_are Vertical zero a = (vertical0_enters a).of_cells
cells_are Vertical (suc c) a = (vertical_enters c a).of_cells
cells_are Scalar c a = (scalar_enters c a).of_cells

pub cells_of_le : (w : Way) (c : ℕ) → cells_of w c ≤ 16
unfolding cells_of
cells_of_le Horizontal c = omega arith
cells_of_le Vertical zero = omega arith
cells_of_le Vertical (suc c) = omega arith
cells_of_le Scalar c = omega arith

-- "No access counts more than 16"
pub cells_le_16 : (w : Way) (c a : ℕ) → distinct (map (pair_of c) (addresses w c a)) ≤ 16
cells_le_16 w c a = rw (cells_are w c a) (cells_of_le w c)
