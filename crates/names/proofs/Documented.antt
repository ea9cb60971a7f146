-- The table of names and the table of opcodes document the same words; a documented word is refused only with 11, exactly where the output is too short.
use mathlib.Core.Path.{◌≡◌, refl, ap, ◌∙◌, sym}
use mathlib.Core.Bool.{Bool, true, false, cond, ◌||◌, not}
use mathlib.Core.List.{List, ◌++◌, map}
use Prim.Native.Nat.{ℕ, ◌-◌, ◌<◌, ◌≤◌}
use native.Mathlib.Omega.{arith}
use borrow.Author.Tests.{lt-ltb, le-ltb}
use lib.Dec.{T, ltb}
use lib.ListN.{length, take, drop, get_or, get_or-map}
use lib.Seq.{take-append_seam}
use lib.Text.{eqt}
use Rattle.terms.specs.Answers as A
use Rattle.terms.specs.declared.Refusal.{Refusal}
use Rattle.terms.specs.declared.Refusal.TheVariants.{Foreign, Undocumented, SideIndex, SideMask}
use Rattle.terms.specs.declared.End.TheVariants as E
use Rattle.words.specs.declared.Fields.{Fields}
use Rattle.words.specs.Decoded.{Decoded}
use Rattle.words.specs.Decoded as D
use Rattle.words.specs.Fields.{fields_of}
use Rattle.words.specs.Table as W
use Rattle.names.specs.Table.{Row, rows, none, row_at, documented, op_of, line_of, normal_of}
use Rattle.names.specs.Calls.{Wrote, wrote, unwritten, write_of, got, read_of}
use Rattle.names.proofs.Tests.{T_true}
use Rattle.names.proofs.Rows.{op_small}
use Rattle.names.proofs.Lines.{documented_range}
use Rattle.names.proofs.Theorems.{read_write, write_read}

-- the numbers 1 and 2, which go by the opcode; 0 for anything else
abbrev unknown : Refusal → ℕ
unknown Foreign = 1
unknown Undocumented = 2
unknown SideIndex = 0
unknown SideMask = 0

abbrev pub unknown_by : Decoded → ℕ
unknown_by (D.Insn i) = 0
unknown_by (D.Refused k) = unknown k

-- the rows that a side input may refuse
of_cond : (b : Bool) (d e : Decoded) → unknown_by (cond b d e) ≡ cond b (unknown_by d) (unknown_by e)
of_cond true d e = refl
of_cond false d e = refl

same_cond : (b : Bool) (n : ℕ) → cond b n n ≡ n
same_cond true n = refl
same_cond false n = refl

abbrev nameless : Row → ℕ
nameless r = cond (not (eqt r.name "")) 0 2

rows_alike : (f : Fields) (side mask : ℕ) → map unknown_by (W.rows f side mask) ≡ map nameless rows
unfolding W.rows rows
rows_alike f side mask = simp (of_cond, same_cond)

row_alike : (f : Fields) (side mask k : ℕ) → unknown_by (get_or (W.rows f side mask) k W.none) ≡ nameless (get_or rows k none)
row_alike f side mask k =
    sym (get_or-map unknown_by (W.rows f side mask) k W.none) ∙ ap (λ (ns : List ℕ). get_or ns k 2) (rows_alike f side mask) ∙ get_or-map nameless rows k none

-- 1 and 2 in writing are 1 and 2 of a step, whatever its side inputs
abbrev pub refused_of : ℕ → ℕ
refused_of w = cond (ltb (op_of w) 0x80 || ltb 0xdf (op_of w)) 1 (cond (not (documented (op_of w))) 2 0)

pub refused_alike : (w side mask : ℕ) → unknown_by (W.decode_of w side mask) ≡ refused_of w
unfolding W.decode_of W.decode_at fields_of row_at
refused_alike w side mask = go (ltb (op_of w) 0x80) (ltb 0xdf (op_of w))
  where
    turn : (b : Bool) → ◌≡◌ {A = ℕ} (cond b 0 2) (cond (not b) 2 0)
    turn true = refl
    turn false = refl

    go : (a b : Bool)
        → unknown_by (cond a (D.Refused Foreign) (cond b (D.Refused Foreign) (get_or (W.rows (fields_of w) side mask) (op_of w - 0x80) W.none)))
        ≡ cond (a || b) 1 (cond (not (not (eqt (cond a none (get_or rows (op_of w - 0x80) none)).name ""))) 2 0)
    go true b = refl
    go false true = refl
    go false false = row_alike (fields_of w) side mask (op_of w - 0x80) ∙ turn (not (eqt (get_or rows (op_of w - 0x80) none).name ""))

-- ---- A DOCUMENTED WORD is refused only with 11, and with 11 exactly where the output is shorter than the line
module _ (w : ℕ) (d : T (documented (op_of w))) (out : List ℕ) where
  pub write_short : length out < length (line_of w) → write_of w out ≡ unwritten E.Short out
  unfolding write_of
  write_short l =
      let r = documented_range (op_of w) (op_small w) d in
      rw (T_true (documented (op_of w)) d, le-ltb (op_of w) 0x80 r.0, le-ltb 0xdf (op_of w) (omega (arith, r.1)), lt-ltb (length out) (length (line_of w)) l) refl

  pub write_whole : length (line_of w) ≤ length out → write_of w out ≡ wrote (A.number E.Done) (length (line_of w)) (line_of w ++ drop (length (line_of w)) out)
  unfolding write_of
  write_whole l =
      let r = documented_range (op_of w) (op_small w) d in
      rw (T_true (documented (op_of w)) d, le-ltb (op_of w) 0x80 r.0, le-ltb 0xdf (op_of w) (omega (arith, r.1)), le-ltb (length out) (length (line_of w)) l) refl

-- ---- the two calls together

-- WRITING THEN READING: what was written is read as the word's normal form
pub written_read : (w : ℕ) → T (documented (op_of w)) → (out : List ℕ) → length (line_of w) ≤ length out
    → read_of (take (write_of w out).bytes (write_of w out).after) ≡ got (A.number E.Done) (normal_of w)
written_read w d out l =
    ap (λ (x : Wrote). read_of (take x.bytes x.after)) (write_whole w d out l)
    ∙ ap read_of (take-append_seam (line_of w) (drop (length (line_of w)) out))
    ∙ read_write w d

-- READING THEN WRITING: what was read is written as it stood
pub read_written : (t : List ℕ) (w : ℕ) → read_of t ≡ got (A.number E.Done) w → (out : List ℕ) → length t ≤ length out
    → write_of w out ≡ wrote (A.number E.Done) (length t) (t ++ drop (length t) out)
read_written t w e out l =
    let r = write_read t w e in
    write_whole w r.known out (rw r.line l) ∙ ap (λ (x : List ℕ). wrote (A.number E.Done) (length x) (x ++ drop (length x) out)) r.line
