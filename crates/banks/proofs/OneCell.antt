-- "One cell each": of each bank that an access enters, it enters one cell. Document 01, "Translation and the sixteen banks".
use mathlib.Core.Path.{◌≡◌, refl, sym, ap, ◌∙◌, subst}
use mathlib.Core.Logic.{◌⊎◌, inl, inr}
use mathlib.Core.Bool.{Bool, true, false, false≢true, ◌||◌}
use mathlib.Core.List.Memᴰ
use mathlib.Core.List.{List, [], ◌∷◌, map, Memᴰ}
use Prim.Native.Nat.{ℕ, zero, suc, ◌+◌, ◌*◌, ◌/◌, ◌%◌, ◌<◌}
use native.Mathlib.Omega.{arith}
use native.Mathlib.Nat.{add-zero, add-suc, suc-add, not-suc-le-zero, le_of_suc-le-suc}
use lib.Dec.{eqb, lit≤}
use borrow.Author.Tests.{eqb-true}
use Rattle.banks.specs.Bank.{cell_of, bank_of, hilo_of}
use Rattle.banks.specs.Inner.Access.{cells_of}
use Rattle.banks.specs.Line.{from, line, row_start, word_start, has, distinct, addresses, start_of, step_of, count_of}
use Rattle.terms.specs.declared.Way.{Way}
use Rattle.terms.specs.declared.Way.TheVariants.{Horizontal, Vertical, Scalar}
use Rattle.banks.proofs.Banks.{row_bank, column_bank, column0_bank, column0_cell, column0_hilo}
use Rattle.banks.proofs.Counts.{slot, apart, vertical0_enters, scalar_enters}
use Rattle.banks.proofs.Entered.{every_bank}

-- a list of addresses enters the bank b at one cell: an address of it lies there, and every address of it in this bank does
pub record OneCell (c : ℕ) (list : List ℕ) (b : ℕ) : Type 0 where
  pub cell : ℕ
  pub entered : (x : ℕ) × Memᴰ x list × (bank_of c x ≡ b) × (cell_of x ≡ cell)
  pub only : (x : ℕ) → Memᴰ x list → bank_of c x ≡ b → cell_of x ≡ cell

-- it enters so many banks, each at one cell
pub record OneEach (c : ℕ) (list : List ℕ) (banks : ℕ) : Type 0 where
  pub of_banks : distinct (map (bank_of c) list) ≡ banks
  pub of_each : (x : ℕ) → Memᴰ x list → OneCell c list (bank_of c x)

-- the cell of each of its addresses it enters at both halves
abbrev pub BothHalves : ℕ → List ℕ → Type 0
BothHalves c list =
    (x h : ℕ) → Memᴰ x list → h < 2 → (y : ℕ) × Memᴰ y list × (bank_of c y ≡ bank_of c x) × (cell_of y ≡ cell_of x) × (hilo_of y ≡ h)

-- ---- the addresses of a list, by their index

in_from : (f : ℕ → ℕ) (s n x : ℕ) → Memᴰ x (map f (from s n)) → (i : ℕ) × (i < n) × (x ≡ f (s + i))
in_from f s zero x m = absurd (Memᴰ.not-nil m)
in_from f s (suc n) x m = go (Memᴰ.cases_cons m) (in_from f (suc s) n x)
  where
    go : (x ≡ f s) ⊎ Memᴰ x (map f (from (suc s) n)) → (Memᴰ x (map f (from (suc s) n)) → (i : ℕ) × (i < n) × (x ≡ f (suc s + i)))
        → (i : ℕ) × (i < suc n) × (x ≡ f (s + i))
    go (inl e) r = (0, omega arith, e ∙ ap f (sym (add-zero s)))
    go (inr t) r = let q = r t in (suc q.0, omega (arith, q.1), q.2 ∙ ap f (omega arith))

from_in : (f : ℕ → ℕ) (s n i : ℕ) → i < n → Memᴰ (f (s + i)) (map f (from s n))
from_in f s zero i h = absurd (not-suc-le-zero h)
from_in f s (suc n) zero h = Memᴰ.head (ap f (add-zero s))
from_in f s (suc n) (suc i) h =
    Memᴰ.tail (subst (λ (k : ℕ). Memᴰ (f k) (map f (from (suc s) n))) (suc-add s i ∙ sym (add-suc s i)) (from_in f (suc s) n i (le_of_suc-le-suc h)))

module _ (w : Way) (c a : ℕ) where
  -- the i-th address
  abbrev nth : ℕ → ℕ
  nth i = start_of w c a + i * step_of w c

  index : (x : ℕ) → Memᴰ x (addresses w c a) → (i : ℕ) × (i < count_of w) × (x ≡ nth i)
  unfolding addresses line
  index x m = let q = in_from nth 0 (count_of w) x m in (q.0, q.1, q.2 ∙ ap nth (omega arith))

  nth_in : (i : ℕ) → i < count_of w → Memᴰ (nth i) (addresses w c a)
  unfolding addresses line
  nth_in i h = subst (λ (k : ℕ). Memᴰ (nth k) (addresses w c a)) (omega arith) (from_in nth 0 (count_of w) i h)

-- ---- two addresses in one bank lie in one cell

same_cell : (w : Way) (c a i j : ℕ) → i < count_of w → j < count_of w → bank_of c (nth w c a i) ≡ bank_of c (nth w c a j)
    → cell_of (nth w c a i) ≡ cell_of (nth w c a j)
unfolding start_of step_of row_start word_start
same_cell Horizontal c a i j hi hj e =
    ap (λ (k : ℕ). cell_of (nth Horizontal c a k))
    (apart c (row_start a) 1 16 _ (lit≤ tt) (λ k h. row_bank c (row_start a) k (omega arith)) i j hi hj e)
same_cell Vertical zero a i j hi hj e =
    column0_cell a i hi
    ∙ ap (λ (k : ℕ). a % 8192 / 256 * 8 + k) (slot (a % 16) (i / 2) (j / 2) (omega arith) (omega arith) (sym (column0_bank a i hi) ∙ e ∙ column0_bank a j hj))
    ∙ sym (column0_cell a j hj)
same_cell Vertical (suc c) a i j hi hj e =
    ap (λ (k : ℕ). cell_of (nth Vertical (suc c) a k)) (apart (suc c) _ _ 16 _ (lit≤ tt) (λ k h. column_bank c a k) i j hi hj e)
same_cell Scalar c a i j hi hj e =
    ap (λ (k : ℕ). cell_of (nth Scalar c a k))
    (apart c (word_start a) 1 4 _ (lit≤ tt) (λ k h. row_bank c (word_start a) k (omega arith)) i j hi hj e)

-- each bank that an access enters, it enters at one cell: of every way, code and address
pub of_each_bank : (w : Way) (c a x : ℕ) → Memᴰ x (addresses w c a) → OneCell c (addresses w c a) (bank_of c x)
of_each_bank w c a x m = record {
  cell = cell_of x;
  entered = (x, m, refl, refl);
  only = λ y n e. let i = index w c a x m in let j = index w c a y n in
      ap cell_of j.2
      ∙ same_cell w c a j.0 i.0 j.1 i.1 (ap (bank_of c) (sym j.2) ∙ e ∙ ap (bank_of c) i.2)
      ∙ ap cell_of (sym i.2);
}

-- a number that a function has on a list, it has at a member
had : (f : ℕ → ℕ) (k : ℕ) (l : List ℕ) → has k (map f l) ≡ true → (x : ℕ) × Memᴰ x l × (f x ≡ k)
had f k [] e = absurd (false≢true e)
had f k (y ∷ l) e = go (eqb k (f y)) (eqb-true k (f y)) e (had f k l)
  where
    go : (b : Bool) → (b ≡ true → k ≡ f y) → b || has k (map f l) ≡ true → (has k (map f l) ≡ true → (x : ℕ) × Memᴰ x l × (f x ≡ k))
        → (x : ℕ) × Memᴰ x (y ∷ l) × (f x ≡ k)
    go true q h r = (y, Memᴰ.head refl, sym (q refl))
    go false q h r = let z = r h in (z.0, Memᴰ.tail z.1, z.2)

-- so a bank that is entered has its one cell
entered_once : (w : Way) (c a k : ℕ) → has k (map (bank_of c) (addresses w c a)) ≡ true → OneCell c (addresses w c a) k
entered_once w c a k h =
    let q = had (bank_of c) k (addresses w c a) h in
    subst (OneCell c (addresses w c a)) q.2 (of_each_bank w c a q.0 q.1)

-- ---- document 01's sentences

module _ (c a : ℕ) where
  -- "A horizontal access enters all 16 banks, one cell each"
  pub horizontal_one_cell : (b : ℕ) → b < 16 → OneCell c (addresses Horizontal c a) b
  unfolding cells_of
  horizontal_one_cell b h = entered_once Horizontal c a b (every_bank Horizontal c a refl b h)

  -- "A vertical one does too for codes 1 to 3"
  pub vertical_one_cell : (b : ℕ) → b < 16 → OneCell (suc c) (addresses Vertical (suc c) a) b
  unfolding cells_of
  vertical_one_cell b h = entered_once Vertical (suc c) a b (every_bank Vertical (suc c) a refl b h)

  -- "A scalar access enters 4"
  pub scalar_one_each : OneEach c (addresses Scalar c a) 4
  scalar_one_each = record { of_banks = (scalar_enters c a).of_banks; of_each = of_each_bank Scalar c a }

-- "for code 0 it enters 8 banks, one cell each, both halves"
module _ (a : ℕ) where
  pub vertical0_one_each : OneEach 0 (addresses Vertical 0 a) 8
  vertical0_one_each = record { of_banks = (vertical0_enters a).of_banks; of_each = of_each_bank Vertical 0 a }

  pub vertical0_both_halves : BothHalves 0 (addresses Vertical 0 a)
  unfolding start_of step_of
  vertical0_both_halves x h m l =
      let i = index Vertical 0 a x m in
      let j = i.0 / 2 * 2 + h in
      let k : j < 16 = omega (arith, i.1) in
      let e : j / 2 ≡ i.0 / 2 = omega arith in
      let g : j % 2 ≡ h = omega arith in (
        nth Vertical 0 a j,
        nth_in Vertical 0 a j k,
        column0_bank a j k ∙ ap (λ (n : ℕ). (a % 16 + n) % 16) e ∙ sym (column0_bank a i.0 i.1) ∙ ap (bank_of 0) (sym i.2),
        column0_cell a j k ∙ ap (λ (n : ℕ). a % 8192 / 256 * 8 + n) e ∙ sym (column0_cell a i.0 i.1) ∙ ap cell_of (sym i.2),
        column0_hilo a j ∙ g,
      )
