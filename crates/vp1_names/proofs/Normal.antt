-- What the normal form of a word decodes to: the word's instruction, with 7 for a flags register that is not there.
use mathlib.Core.Path.{◌≡◌, refl, sym, ap, subst, ◌∙◌}
use Prim.Native.Nat.{ℕ, zero, suc, ◌+◌, ◌-◌, ◌%◌, ◌<◌}
use native.Mathlib.Nat.{add-zero, add-suc, suc-add, div-one, not-suc-le-zero, le_of_suc-le-suc}
use native.Mathlib.Omega.{arith}
use mathlib.Core.Bool.{Bool, true, false, cond, ◌&&◌}
use mathlib.Core.List.{List, [], ◌∷◌, map}
use borrow.Author.Tests.{ltb-false}
use lib.Dec.{ltb, eqb}
use lib.IntN.{pos, ◌-ℤ◌}
use lib.ListN.{get_or, length, get_or-map}
use Rattle.terms.specs.declared.Refusal.TheVariants.{Foreign}
use Rattle.words.specs.declared.Fields.{Fields}
use Rattle.words.specs.Decoded.{Decoded}
use Rattle.words.specs.Decoded as D
use Rattle.words.specs.Fields.{fields_of}
use Rattle.words.specs.Table.{rows, none, decode_at, decode_of}
use Rattle.names.specs.Line.{Operand, kept, value_of}
use Rattle.names.specs.Table.{Row, row_at, operands_at, op_of, normal_of}
use Rattle.names.specs.Table as T
use Rattle.names.proofs.Fields.{cut, Shows}
use Rattle.names.proofs.Rows.{normal_op, normal_shows}

-- the fields, by their first bits and widths
abbrev fields : (ℕ → ℕ → ℕ) → Fields
fields c =
    record {
      op = c 24 8;
      dst = c 19 5;
      src1 = c 14 5;
      src2 = c 9 5;
      src3 = c 4 5;
      flags = c 0 3;
      bitop = c 3 4;
      cmpop = c 19 4;
      byte = c 3 8;
      half = c 0 16;
      uimm = c 3 11;
      imm = cond (ltb (c 3 11) 1024) (pos (c 3 11)) (pos (c 3 11) -ℤ pos 2048);
      hi = eqb (c 3 1) 1;
    }

abbrev cuts : ℕ → ℕ → ℕ → ℕ
cuts w at n = cut at n w

fields_are : (w : ℕ) → fields_of w ≡ fields (cuts w)
unfolding fields_of
fields_are w = rw (div-one w)

-- another flags register
abbrev pub flagged : ℕ → Fields → Fields
flagged x f =
    record {
      op = f.op;
      dst = f.dst;
      src1 = f.src1;
      src2 = f.src2;
      src3 = f.src3;
      flags = x;
      bitop = f.bitop;
      cmpop = f.cmpop;
      byte = f.byte;
      half = f.half;
      uimm = f.uimm;
      imm = f.imm;
      hi = f.hi;
    }

-- one that is not there is 7
abbrev pub keep : ℕ → ℕ
keep x = cond (ltb x 4) x 7

-- ---- a row of the table of opcodes holds no field that the row of the table of names does not show

-- the values of a row's operands, by their fields, and 0 elsewhere
abbrev chosen : (Operand → ℕ) → List Operand → ℕ → ℕ → ℕ
chosen g [] at n = 0
chosen g (o ∷ os) at n = cond (eqb o.at at && eqb o.bits n) (g o) (chosen g os at n)

module _ (side mask : ℕ) where
  -- each row of the table of opcodes, from j on, with its operands' values alone
  abbrev each : (Operand → ℕ) → ℕ → List Row → List Decoded
  each g j [] = []
  each g j (r ∷ rs) = get_or (rows (fields (chosen g r.operands)) side mask) j none ∷ each g (suc j) rs

  each_at : (g : Operand → ℕ) (rs : List Row) (j k : ℕ) → k < length rs
      → get_or (each g j rs) k none ≡ get_or (rows (fields (chosen g (get_or rs k T.none).operands)) side mask) (j + k) none
  each_at g [] j k h = absurd (not-suc-le-zero h)
  each_at g (r ∷ rs) j zero h = rw add-zero
  each_at g (r ∷ rs) j (suc k) h = rw (add-suc, ← suc-add) (each_at g rs (suc j) k (le_of_suc-le-suc h))

  -- with the fields as they are: the table of opcodes
  plain_rows : (c : ℕ → ℕ → ℕ) → each (λ o. c o.at o.bits) 0 T.rows ≡ rows (fields c) side mask
  unfolding rows T.rows
  plain_rows c = refl

  -- with the values that a line shows: the same, but for the flags register
  kept_rows : (c : ℕ → ℕ → ℕ)
      → each (λ o. kept o.kind (c o.at o.bits)) 0 T.rows ≡ rows (flagged (keep (c 0 3)) (fields c)) side mask
  unfolding rows T.rows
  kept_rows c = refl

chosen_same : (os : List Operand) (x w : ℕ) → Shows os x w → chosen (λ o. cut o.at o.bits x) os ≡ chosen (λ o. value_of o w) os
chosen_same [] x w s = refl
chosen_same (o ∷ os) x w s = λ i at n. cond (eqb o.at at && eqb o.bits n) (s.0 i) (chosen_same os x w s.1 i at n)

-- a word that shows w's operands has w's row
row_same : (x w side mask k : ℕ) → k < 96 → Shows (get_or T.rows k T.none).operands x w
    → get_or (rows (fields_of x) side mask) k none ≡ get_or (rows (flagged (keep (fields_of w).flags) (fields_of w)) side mask) k none
unfolding T.rows value_of
row_same x w side mask k h s =
    rw (fields_are x, fields_are w)
    (ap (λ (ds : List Decoded). get_or ds k none) (sym (plain_rows side mask (cuts x)))
    ∙ each_at side mask (λ o. cut o.at o.bits x) T.rows 0 k h
    ∙ ap (λ (c : ℕ → ℕ → ℕ). get_or (rows (fields c) side mask) (0 + k) none) (chosen_same (get_or T.rows k T.none).operands x w s)
    ∙ sym (each_at side mask (λ o. value_of o w) T.rows 0 k h)
    ∙ ap (λ (ds : List Decoded). get_or ds k none) (kept_rows side mask (cuts w)))

-- ---- from the rows to the decoded word

module _ {Y : Type 0} (h : Decoded → Y) (side mask op : ℕ) (f g : Fields) where
  abbrev row : Fields → Decoded
  row f = get_or (rows f side mask) (op - 128) none

  by_row : (ltb op 128 ≡ false → ltb 223 op ≡ false → h (row f) ≡ h (row g)) → h (decode_at op f side mask) ≡ h (decode_at op g side mask)
  unfolding decode_at
  by_row = go (ltb op 128) (ltb 223 op)
    where
      go : (b c : Bool) → (b ≡ false → c ≡ false → h (row f) ≡ h (row g))
          → h (cond b (D.Refused Foreign) (cond c (D.Refused Foreign) (row f))) ≡ h (cond b (D.Refused Foreign) (cond c (D.Refused Foreign) (row g)))
      go true c e = refl
      go false true e = refl
      go false false e = e refl refl

pub op_same : (w : ℕ) → (fields_of (normal_of w)).op ≡ op_of w
unfolding fields_of
op_same w = normal_op w

shown_row : (op : ℕ) → ltb op 128 ≡ false → operands_at op ≡ (get_or T.rows (op - 128) T.none).operands
unfolding row_at
shown_row op e = ap (λ (b : Bool). (cond b T.none (get_or T.rows (op - 128) T.none)).operands) e

module _ (w side mask : ℕ) where
  -- what the word would be with another flags register
  abbrev pub decoded_as : ℕ → Decoded
  decoded_as x = decode_at (op_of w) (flagged x (fields_of w)) side mask

  pub decode_own : decode_of w side mask ≡ decoded_as (w % 8)
  unfolding decode_of fields_of
  decode_own = refl

  pub decode_normal : decode_of (normal_of w) side mask ≡ decoded_as (keep (w % 8))
  unfolding decode_of fields_of
  decode_normal =
      ap (λ (op : ℕ). decode_at op (fields_of (normal_of w)) side mask) (op_same w)
      ∙ by_row (λ d. d) side mask (op_of w) (fields_of (normal_of w)) (flagged (keep (w % 8)) (fields_of w)) (λ e g.
      row_same (normal_of w) w side mask (op_of w - 128) (omega (arith, ltb-false (op_of w) 128 e, ltb-false 223 (op_of w) g))
      (subst (λ (os : List Operand). Shows os (normal_of w) w) (shown_row (op_of w) e) (normal_shows w)))

-- ---- what does not go by the number of a flags register that is not there

-- no row's answer does
abbrev pub Blind : {Y : Type 0} → (Decoded → Y) → ℕ → ℕ → Type 0
Blind h side mask = (f : Fields) (x : ℕ) → ltb x 4 ≡ false → map h (rows (flagged x f) side mask) ≡ map h (rows (flagged 7 f) side mask)

-- the rows that a side input may refuse
pub of_cond : {Y : Type 0} (h : Decoded → Y) (b : Bool) (d e : Decoded) → h (cond b d e) ≡ cond b (h d) (h e)
of_cond h true d e = refl
of_cond h false d e = refl

module _ {Y : Type 0} (h : Decoded → Y) (side mask : ℕ) where
  answer_at : (op : ℕ) (f g : Fields) → map h (rows f side mask) ≡ map h (rows g side mask)
      → h (decode_at op f side mask) ≡ h (decode_at op g side mask)
  answer_at op f g e =
      by_row h side mask op f g (λ _ _.
      sym (get_or-map h (rows f side mask) (op - 128) none)
      ∙ ap (λ (ys : List Y). get_or ys (op - 128) (h none)) e
      ∙ get_or-map h (rows g side mask) (op - 128) none)

  pub same_answer : (w : ℕ) → Blind h side mask → h (decode_of (normal_of w) side mask) ≡ h (decode_of w side mask)
  same_answer w blind = ap h (decode_normal w side mask) ∙ go (ltb (w % 8) 4) refl ∙ ap h (sym (decode_own w side mask))
    where
      go : (b : Bool) → ltb (w % 8) 4 ≡ b → h (decoded_as w side mask (cond b (w % 8) 7)) ≡ h (decoded_as w side mask (w % 8))
      go true e = refl
      go false e = sym (answer_at (op_of w) (flagged (w % 8) (fields_of w)) (flagged 7 (fields_of w)) (blind (fields_of w) (w % 8) e))
