-- A row is a line's bytes from one bank on: the order of its stores does not matter, since they go to a bank each.
use mathlib.Core.Path.{◌≡◌, refl, sym, ap, ◌∙◌}
use mathlib.Core.Bool.{cond}
use lib.Bits.{bit_and, and_mask}
use lib.Dec.{leb}
use borrow.Author.Tests.{lt-leb}
use mathlib.Core.List.{List}
use Prim.Native.Nat.{ℕ, ◌+◌, ◌*◌, ◌-◌, ◌/◌, ◌%◌, ◌<◌, ◌≤◌}
use native.Mathlib.Omega.{arith}
use native.Mathlib.Decide.{ℕ_discrete}
use lib.ListN.{length, get_or}
use lib.Seq.{ext_get_or}
use Rattle.store.specs.Inner.Steps.{upto, in_bank}
use Rattle.store.specs.Inner.Loads.{loaded, stored}
use Rattle.store.proofs.Laws.{length_stored, length_upto, get_d_upto, get_d_loads, loads_by, loads_loads, stored_not, stored_at}

pub row_loads : (l b : ℕ) (ds : List ℕ) → b < 16
    → loaded (loaded ds (upto (in_bank l) 32)) (upto (λ i. b + i) 16) ≡ loaded ds (upto (λ i. in_bank l (b + i)) 16)
row_loads l b ds h = loads_loads (in_bank l) (λ i. b + i) 32 16 ds (λ i u. omega arith)

-- the byte of the row that goes to bank k
turned : (b k : ℕ) (x : List ℕ) → b < 16 → k < 16
    → get_or (loaded x (upto (λ k. (16 - b + k) % 16) 16)) k 0 ≡ get_or x ((16 - b + k) % 16) 0
turned b k x hb hk = get_d_loads (λ k. (16 - b + k) % 16) 16 x k hk

-- sixteen bytes picked by their numbers, each moved on and cut to four bits: none is 128 or more, which would pick a 0
module _ (x : List ℕ) (by : ℕ) (small : by ≤ 16) where
  abbrev picked : ℕ → ℕ
  picked k = cond (leb 128 (bit_and ((k + by) % 256) 15)) 0 (get_or x (0 + bit_and ((k + by) % 256) 15) 0)

  one : (k : ℕ) → k < 16 → picked k ≡ get_or x ((by + k) % 16) 0
  one k h =
      let e : bit_and ((k + by) % 256) 15 ≡ (by + k) % 16 = and_mask ((k + by) % 256) 4 ∙ omega (arith, small) in
      let z : 0 + (by + k) % 16 ≡ (by + k) % 16 = omega arith in
      rw (e, lt-leb 128 ((by + k) % 16) (omega arith), z) refl

  pub turn_is : upto picked 16 ≡ loaded x (upto (λ k. (by + k) % 16) 16)
  turn_is = loads_by (λ k. (by + k) % 16) 16 x (upto picked 16) (length_upto picked 16) (λ k h. get_d_upto picked 16 k h ∙ one k h)

-- the code's place of bank k, and of the second half's bank 16 + k
pub in_bank_lem : (l k : ℕ) → k < 16 → 512 * k + l ≡ in_bank l k
unfolding in_bank
in_bank_lem l k h = omega arith

pub in_bank_again : (l k : ℕ) → k < 16 → 512 * k + l ≡ in_bank l (16 + k)
unfolding in_bank
in_bank_again l k h = omega arith

bank_of_lem : (l k : ℕ) → l < 512 → in_bank l k / 512 ≡ k % 16
unfolding in_bank
bank_of_lem l k h = omega arith

line_of : (l k : ℕ) → l < 512 → in_bank l k % 512 ≡ l
unfolding in_bank
line_of l k h = omega arith

bank_at_lem : (l p : ℕ) → p < 8192 → p % 512 ≡ l → (k : ℕ) → k % 16 ≡ p / 512 → p ≡ in_bank l k
unfolding in_bank
bank_at_lem l p h e k f = rw f (omega arith)

module _ (l b : ℕ) (ds x : List ℕ) (hl : l < 512) (hb : b < 16) (whole : length ds ≡ 8192) where
  abbrev us : List ℕ
  us = loaded x (upto (λ k. (16 - b + k) % 16) 16)

  pub row_stores : stored ds (upto (in_bank l) 16) us
      ≡ stored ds (upto (λ i. in_bank l (b + i)) 16) x
  row_stores =
      ext_get_or 0 _ _ (length_stored ds _ us ∙ sym (length_stored ds _ x))
      (λ p u. go p (omega (arith, length_stored ds (upto (in_bank l) 16) us)) (ℕ_discrete (p % 512) l))
    where
      go : (p : ℕ) → p < 8192 → Dec (p % 512 ≡ l)
          → get_or (stored ds (upto (in_bank l) 16) us) p 0 ≡ get_or (stored ds (upto (λ i. in_bank l (b + i)) 16) x) p 0
      go p u (yes q) =
          let k = p / 512 in
          let i = (16 - b + k) % 16 in
          stored_at (in_bank l) 16 ds us p k (omega arith) (bank_at_lem l p u q k (omega arith))
          (λ j v e. omega (arith, bank_of_lem l j hl, ap (λ (n : ℕ). n / 512) e)) (omega arith)
          ∙ turned b k x hb (omega arith)
          ∙ sym (stored_at (λ n. in_bank l (b + n)) 16 ds x p i (omega arith) (bank_at_lem l p u q (b + i) (omega arith))
          (λ j v e. omega (arith, bank_of_lem l (b + j) hl, ap (λ (n : ℕ). n / 512) e)) (omega arith))
      go p u (no n) =
          stored_not (in_bank l) 16 ds us p (λ j v e. n (ap (λ (m : ℕ). m % 512) e ∙ line_of l j hl))
          ∙ sym (stored_not (λ n. in_bank l (b + n)) 16 ds x p (λ j v e. n (ap (λ (m : ℕ). m % 512) e ∙ line_of l (b + j) hl)))
