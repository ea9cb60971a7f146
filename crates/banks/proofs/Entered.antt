-- Which banks an access enters: those that lie less than its number of cells behind the bank of its first address, round the sixteen.
use mathlib.Core.Path.{◌≡◌, refl, sym, ap, ◌∙◌}
use mathlib.Core.Bool.{Bool, true, false}
use mathlib.Core.List.{map}
use Prim.Native.Nat.{ℕ, zero, suc, ◌+◌, ◌*◌, ◌/◌, ◌%◌, ◌≤◌, ◌<◌}
use native.Mathlib.Omega.{arith}
use lib.Dec.{ltb, lit≤, lit<}
use borrow.Author.Tests.{ltb-true, ltb-false, lt-ltb}
use Rattle.banks.specs.Bank.{bank_of}
use Rattle.banks.specs.Line.{line, row_start, word_start, has, addresses, start_of, step_of}
use Rattle.banks.specs.Inner.Access.{cells_of, behind}
use Rattle.terms.specs.declared.Way.{Way}
use Rattle.terms.specs.declared.Way.TheVariants.{Horizontal, Vertical, Scalar}
use Rattle.banks.proofs.Distinct.{line_has, line_lacks}
use Rattle.banks.proofs.Banks.{row_bank, column_bank, column0_bank}

-- a line of m addresses whose banks follow each other round the sixteen, each coming so many times running: n banks
module _ (c b s m times n x : ℕ) (few : n ≤ 16) (some : 0 < m) (zeroth : 0 / times ≡ 0)
    (ring : (i : ℕ) → i < m → bank_of c (b + i * s) ≡ (x + i / times) % 16)
    (most : (i : ℕ) → i < m → i / times < n)
    (reached : (j : ℕ) → j < n → (i : ℕ) × (i < m) × (i / times ≡ j)) where
  first_bank_lem : bank_of c b ≡ x % 16
  first_bank_lem =
      let e : b + 0 * s ≡ b = omega arith in
      ap (bank_of c) (sym e) ∙ ring 0 some ∙ ap (λ (j : ℕ). (x + j) % 16) zeroth ∙ ap (λ (y : ℕ). y % 16) (omega arith)

  ring_has : (k : ℕ) → k < 16 → has k (map (bank_of c) (line b s m)) ≡ ltb (behind k (bank_of c b)) n
  ring_has k h = rw first_bank_lem (go (ltb (behind k (x % 16)) n) refl)
    where
      go : (t : Bool) → ltb (behind k (x % 16)) n ≡ t → has k (map (bank_of c) (line b s m)) ≡ t
      go true e =
          let q = reached (behind k (x % 16)) (ltb-true _ n e) in
          let g : (x + behind k (x % 16)) % 16 ≡ k = omega arith in
          ap (λ (y : ℕ). has y (map (bank_of c) (line b s m))) (sym (ring q.0 q.1 ∙ ap (λ (j : ℕ). (x + j) % 16) q.2 ∙ g))
          ∙ line_has (bank_of c) b s m q.0 q.1
      go false e =
          line_lacks (bank_of c) b s m k (λ i l g.
          let f : k ≡ (x + i / times) % 16 = g ∙ ring i l in
          let u = most i l in
          let v = ltb-false (behind k (x % 16)) n e in
          omega arith)

-- where each bank comes once
module _ (c b s n x : ℕ) (few : n ≤ 16) (some : 0 < n) (ring : (i : ℕ) → i < n → bank_of c (b + i * s) ≡ (x + i) % 16) where
  once_has : (k : ℕ) → k < 16 → has k (map (bank_of c) (line b s n)) ≡ ltb (behind k (bank_of c b)) n
  once_has =
      ring_has c b s n 1 n x few some refl (λ i h. ring i h ∙ ap (λ (j : ℕ). (x + j) % 16) (omega arith)) (λ i h. omega arith)
      (λ j h. (j, h, omega arith))

-- ---- for every way, code and address

pub entered_are : (w : Way) (c a k : ℕ) → k < 16
    → has k (map (bank_of c) (addresses w c a)) ≡ ltb (behind k (bank_of c (start_of w c a))) (cells_of w c)
unfolding addresses start_of step_of row_start word_start cells_of
entered_are Horizontal c a = once_has c (row_start a) 1 16 _ (lit≤ tt) (lit< tt) (λ i h. row_bank c (row_start a) i (omega arith))
entered_are Vertical zero a =
    ring_has 0 _ _ 16 2 8 (a % 16) (lit≤ tt) (lit< tt) refl (column0_bank a) (λ i h. omega arith)
    (λ j h. (j * 2, omega arith, omega arith))
entered_are Vertical (suc c) a = once_has (suc c) _ _ 16 _ (lit≤ tt) (lit< tt) (λ i h. column_bank c a i)
entered_are Scalar c a = once_has c (word_start a) 1 4 _ (lit≤ tt) (lit< tt) (λ i h. row_bank c (word_start a) i (omega arith))

-- so an access that enters sixteen cells enters every bank: a horizontal one, and a vertical one under codes 1 to 3
pub every_bank : (w : Way) (c a : ℕ) → cells_of w c ≡ 16 → (k : ℕ) → k < 16 → has k (map (bank_of c) (addresses w c a)) ≡ true
every_bank w c a e k h = entered_are w c a k h ∙ rw e (lt-ltb (behind k (bank_of c (start_of w c a))) 16 (omega arith))
