-- Each answer number is given exactly under document 01's condition on the opcode, the side index and the side mask word.
use mathlib.Core.Path.{◌≡◌, refl, sym, ap, ◌∙◌}
use mathlib.Core.Logic.{◌↔◌}
use Prim.Native.Nat.{ℕ, zero, suc, ◌+◌, ◌-◌, ◌≤◌, ◌<◌}
use native.Mathlib.Omega.{arith}
use native.Mathlib.Nat.{add-zero, add-suc, suc-add, le_of_suc-le-suc}
use mathlib.Core.Bool.{Bool, true, false, cond, not, ◌&&◌, ◌||◌}
use mathlib.Core.List.{List, [], ◌∷◌, map}
use borrow.Author.Tests.{eqb-true, eq-eqb, ltb-true, ltb-false, le-ltb, lt-ltb}
use lib.Dec.{eqb, ltb}
use lib.ListN.{get_or, get_or-map}
use Rattle.banks.specs.Line.{from, has}
use Rattle.words.specs.Fields.{fields_of}
use Rattle.words.specs.Table.{decode_of, decode_at, rows, none}
use Rattle.words.specs.declared.Fields.{Fields}
use Rattle.terms.specs.declared.Refusal.TheVariants.{Foreign}
use Rattle.words.specs.Decoded.{Decoded}
use Rattle.words.specs.Decoded as D
use Rattle.pieces.specs.State.{State, sized_of}
use Rattle.model.specs.Claims.{foreign, documented, sided_ops, sided, masked, Exactly}
use Rattle.terms.specs.Counts as K
use Rattle.model.specs.Step.{outcome, refusal, by_decoded, triple_of, step_of}
use Rattle.pieces.proofs.Right.{clash, sized_if, sized_only}
use Rattle.terms.proofs.Sums.{and_true}
use Rattle.model.proofs.Refused.{five_iff}

-- "3 and 4 can't meet"
pub not_both : (op : ℕ) → masked op ≡ true → sided op ≡ false
not_both op e = rw (eqb-true op 0x8f e)

-- of an opcode from 0x80 to 0xdf, with whether the side index is below 32 and the side mask word below 0x20000
abbrev pub number_at : Bool → Bool → ℕ → ℕ
number_at i m op = cond (documented op) (cond (sided op && not i) 3 (cond (masked op && not m) 4 0)) 2

-- 1, 2, 3, 4 in that order; 0 where none of them is due
abbrev pub number_of : ℕ → ℕ → ℕ → ℕ
number_of op side mask = cond (foreign op) 1 (number_at (ltb side 32) (ltb mask 131072) op)

-- the number that a row of the table comes to
abbrev number_in : Decoded → ℕ
number_in (D.Insn i) = 0
number_in (D.Refused k) = refusal k

number_by : (d : Decoded) (s : State) → (by_decoded d s).number ≡ number_in d
number_by (D.Insn i) s = refl
number_by (D.Refused k) s = refl

-- the table's 96 rows say what the paper says
table : (f : Fields) (side mask : ℕ) (i m : Bool) → ltb side 32 ≡ i → ltb mask 131072 ≡ m
    → map number_in (rows f side mask) ≡ map (number_at i m) (from 0x80 96)
unfolding rows
table f side mask true true e g = rw (e, g)
table f side mask true false e g = rw (e, g)
table f side mask false true e g = rw (e, g)
table f side mask false false e g = rw (e, g)

pub from_at : (g : ℕ → ℕ) (d j n k : ℕ) → k < n → get_or (map g (from j n)) k d ≡ g (j + k)
from_at g d j zero k h = absurd (omega arith)
from_at g d j (suc n) zero h = rw add-zero
from_at g d j (suc n) (suc k) h = rw (add-suc, ← suc-add) (from_at g d (suc j) n k (le_of_suc-le-suc h))

module _ (f : Fields) (side mask : ℕ) where
  abbrev i : Bool
  i = ltb side 32

  abbrev m : Bool
  m = ltb mask 131072

  row_number : (op : ℕ) → 0x80 ≤ op → op ≤ 0xdf → number_in (get_or (rows f side mask) (op - 0x80) none) ≡ number_at i m op
  row_number op l u =
      let e : 0x80 + (op - 0x80) ≡ op = omega arith in
      sym (get_or-map number_in (rows f side mask) (op - 0x80) none)
      ∙ ap (λ (ns : List ℕ). get_or ns (op - 0x80) 2) (table f side mask i m refl refl)
      ∙ from_at (number_at i m) 2 0x80 96 (op - 0x80) (omega arith)
      ∙ ap (number_at i m) e

  decoded_number : (op : ℕ) → number_in (decode_at op f side mask) ≡ number_of op side mask
  unfolding decode_at
  decoded_number op = go (ltb op 0x80) (ltb 0xdf op) (ltb-false op 0x80) (ltb-false 0xdf op)
    where
      go : (b c : Bool) → (b ≡ false → 0x80 ≤ op) → (c ≡ false → op ≤ 0xdf)
          → number_in (cond b (D.Refused Foreign) (cond c (D.Refused Foreign) (get_or (rows f side mask) (op - 0x80) none)))
          ≡ cond (b || c) 1 (number_at i m op)
      go true c l u = refl
      go false true l u = refl
      go false false l u = row_number op (l refl) (u refl)

-- the number of a triple, by its opcode and its side inputs
pub triple_number : (word side mask : ℕ) (s : State) → (triple_of word side mask s).number ≡ number_of (fields_of word).op side mask
unfolding triple_of decode_of
triple_number word side mask s =
    number_by (decode_of word side mask) s ∙ decoded_number (fields_of word) side mask (fields_of word).op

-- the number of the single call
pub step_number : (word side mask : ℕ) (s : State)
    → (step_of word side mask s).number ≡ cond (sized_of s) (number_of (fields_of word).op side mask) 5
unfolding step_of
step_number word side mask s = go (sized_of s)
  where
    go : (b : Bool) → (cond b (triple_of word side mask s) (outcome 5 K.none s)).number ≡ cond b (number_of (fields_of word).op side mask) 5
    go true = triple_number word side mask s
    go false = refl

-- ---- document 01's table, from that

-- which of the six numbers it is, as tests: z the lengths are right, f the opcode is foreign, d it is documented, i the side index is
-- used and too large, m the side mask word is
record Tests (n : ℕ) (z f d i m : Bool) : Type 0 where
  one : eqb n 1 ≡ z && f
  two : eqb n 2 ≡ z && (not f && not d)
  three : eqb n 3 ≡ z && (not f && (d && i))
  four : eqb n 4 ≡ z && (not f && (d && (not i && m)))
  none : eqb n 0 ≡ z && (not f && (d && (not i && not m)))

tests : (z f d i m : Bool) → Tests (cond z (cond f 1 (cond d (cond i 3 (cond m 4 0)) 2)) 5) z f d i m
tests false f d i m = record { one = refl; two = refl; three = refl; four = refl; none = refl }
tests true true d i m = record { one = refl; two = refl; three = refl; four = refl; none = refl }
tests true false false i m = record { one = refl; two = refl; three = refl; four = refl; none = refl }
tests true false true true m = record { one = refl; two = refl; three = refl; four = refl; none = refl }
tests true false true false true = record { one = refl; two = refl; three = refl; four = refl; none = refl }
tests true false true false false = record { one = refl; two = refl; three = refl; four = refl; none = refl }

-- a number that a test decides
by_test : {A : Type 0} (n k : ℕ) (b : Bool) → eqb n k ≡ b → (b ≡ true → A) → (A → b ≡ true) → (n ≡ k) ↔ A
by_test n k b e f g = (λ h. f (sym e ∙ eq-eqb n k h), λ a. eqb-true n k (e ∙ g a))

not_true : (a : Bool) → not a ≡ true → a ≡ false
not_true true e = absurd (clash e)
not_true false e = refl

-- a test that each number of a list passes, one that is in it passes
abbrev every : (ℕ → Bool) → List ℕ → Bool
every p [] = true
every p (y ∷ ys) = p y && every p ys

has_every : (p : ℕ → Bool) (x : ℕ) (ys : List ℕ) → every p ys ≡ true → has x ys ≡ true → p x ≡ true
has_every p x [] h e = absurd (clash e)
has_every p x (y ∷ ys) h e = let q = and_true (p y) (every p ys) h in go (eqb x y) (eqb-true x y) q.0 e (has_every p x ys q.1)
  where
    go : (b : Bool) → (b ≡ true → x ≡ y) → p y ≡ true → b || has x ys ≡ true → (has x ys ≡ true → p x ≡ true) → p x ≡ true
    go true q k r f = ap p (q refl) ∙ k
    go false q k r f = f r

-- the instructions that use a side input are documented
abbrev Known : ℕ → Type 0
Known op = (foreign op ≡ false) × (documented op ≡ true)

sided_known : (op : ℕ) → sided op ≡ true → Known op
sided_known op e =
    let q = and_true (not (foreign op)) (documented op) (has_every (λ n. not (foreign n) && documented n) op sided_ops refl e) in
    (not_true (foreign op) q.0, q.1)

masked_known : (op : ℕ) → masked op ≡ true → Known op
masked_known op e = rw (eqb-true op 0x8f e) (refl, refl)

-- a side input that is used and too large, and one that is not
beyond : (k : Bool) (x n : ℕ) → k && not (ltb x n) ≡ true → (k ≡ true) × (n ≤ x)
beyond k x n e = let q = and_true k (not (ltb x n)) e in (q.0, ltb-false x n (not_true (ltb x n) q.1))

beyond_if : (k : Bool) (x n : ℕ) → k ≡ true → n ≤ x → k && not (ltb x n) ≡ true
beyond_if k x n e h = rw (e, le-ltb x n h)

within : (k : Bool) (x n : ℕ) → k && not (ltb x n) ≡ false → k ≡ true → x < n
within k x n e f = go (ltb x n) (ltb-true x n) (rw f at e)
  where
    go : (b : Bool) → (b ≡ true → x < n) → not b ≡ false → x < n
    go true q r = q refl
    go false q r = absurd (clash (sym r))

within_if : (k : Bool) (x n : ℕ) → (k ≡ true → x < n) → k && not (ltb x n) ≡ false
within_if true x n h = rw (lt-ltb x n (h refl))
within_if false x n h = refl

module _ (word side mask : ℕ) (s : State) where
  abbrev op : ℕ
  op = (fields_of word).op

  abbrev n : ℕ
  n = (step_of word side mask s).number

  abbrev z : Bool
  z = sized_of s

  -- the side index, and the side mask word, is used and too large
  abbrev u : Bool
  u = sided op && not (ltb side 32)

  abbrev v : Bool
  v = masked op && not (ltb mask 131072)

  tested : Tests n z (foreign op) (documented op) u v
  tested = rw (step_number word side mask s) (tests z (foreign op) (documented op) u v)

  -- document 01's table of answer numbers, for the single call
  pub step_exactly : Exactly (step_of word side mask s).number (fields_of word).op side mask s
  step_exactly = record {
    five = five_iff word side mask s;
    one = by_test n 1 _ tested.one
        (λ e. let q = and_true z (foreign op) e in (sized_if s q.0, q.1))
        (λ h. rw (sized_only s h.0, h.1));
    two = by_test n 2 _ tested.two
        (λ e. let q = and_true z _ e in let r = and_true (not (foreign op)) (not (documented op)) q.1 in
        (sized_if s q.0, not_true (foreign op) r.0, not_true (documented op) r.1))
        (λ h. rw (sized_only s h.0, h.1, h.2));
    three = by_test n 3 _ tested.three
        (λ e. let q = and_true z _ e in let r = and_true (not (foreign op)) _ q.1 in let t = beyond (sided op) side 32 (and_true (documented op) u r.1).1 in
        (sized_if s q.0, t.0, t.1))
        (λ h. let k = sided_known op h.1 in rw (sized_only s h.0, k.0, k.1) (beyond_if (sided op) side 32 h.1 h.2));
    four = by_test n 4 _ tested.four
        (λ e. let q = and_true z _ e in let r = and_true (not (foreign op)) _ q.1 in let t = and_true (documented op) _ r.1 in
        let x = beyond (masked op) mask 131072 (and_true (not u) v t.1).1 in (sized_if s q.0, x.0, x.1))
        (λ h. let k = masked_known op h.1 in rw (sized_only s h.0, k.0, k.1, not_both op h.1) (beyond_if (masked op) mask 131072 h.1 h.2));
    zero = by_test n 0 _ tested.none
        (λ e. let q = and_true z _ e in let r = and_true (not (foreign op)) _ q.1 in let t = and_true (documented op) _ r.1 in
        let x = and_true (not u) (not v) t.1 in (
          sized_if s q.0,
          not_true (foreign op) r.0,
          t.0,
          (λ k. omega (arith, within (sided op) side 32 (not_true u x.0) k)),
          λ k. omega (arith, within (masked op) mask 131072 (not_true v x.1) k),
        ))
        (λ h. rw (sized_only s h.0, h.1, h.2, within_if (sided op) side 32 (λ k. omega (arith, h.3 k)), within_if (masked op) mask 131072 (λ k. omega (arith, h.4 k))));
  }
