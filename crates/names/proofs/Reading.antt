-- What the reader's loop over the opcodes may answer: a candidate whose line is the text, or 0 where no opcode's candidate has this line.
use mathlib.Core.Path.{◌≡◌, refl, ap, ◌∙◌, sym, subst}
use mathlib.Core.Bool.{Bool, true, false, cond, ◌&&◌}
use mathlib.Core.List.{List, [], ◌∷◌}
use Prim.Native.Nat.{ℕ, ◌+◌, ◌*◌, ◌%◌, ◌^◌, ◌<◌, ◌≤◌}
use native.Mathlib.Nat.{mod-lt, zero-div, zero-mod, one-le-pow}
use native.Mathlib.Omega.{arith}
use lib.Dec.{T, eqb→eq}
use lib.ListN.{length, drop}
use Rattle.terms.specs.Answers.{number}
use Rattle.terms.specs.declared.End.TheVariants.{Done, Unnamed, Amiss, Unended}
use Rattle.names.specs.Line.{Kind, number as numberK, flags, signed, lohi, allvc, Operand}
use Rattle.names.specs.Table.{documented, name_at, operands_at, op_of, line_of, normal_of}
use Rattle.names.specs.Calls.{got, unread, eqs, one_feed, up_to, first, some, named_by, written_as, read_of}
use Rattle.names.specs.Inner.Scan.{meant, present, gathered, operand_texts, candidate}
use Rattle.names.specs.Inner.Scan as S
use Rattle.names.specs.Inner.Code.{head_code, bears, tried_at, word_in}
use Rattle.names.proofs.Tests.{and_left, and_right, T_true, eqs_eq, eqs_refl}
use Rattle.names.proofs.First.{first_passes, some_passes, none_passes}
use Rattle.names.proofs.Gather.{fine}
use Rattle.names.proofs.Fields.{cut, free, disjoint, fines, keeps, self, apart}
use Rattle.names.proofs.Rows.{op_small, row_fines, row_disjoint, row_free, candidate_line, normal_line, normal_op}
use Rattle.names.proofs.Apart.{one_line}
use Rattle.names.proofs.Lines.{documented_range}
use Rattle.names.proofs.Theorems.{line_name, named_by_lem, is_written, written_known, written_line}
use Rattle.names.proofs.Heads.{bears_is}

-- ---- what is gathered lies in the fields: the candidate of an opcode has this opcode
absent_small : (k : Kind) (n a l : ℕ) → present k a l ≡ false → T (fine k n) → 7 < 2 ^ n
absent_small (numberK b p) n a l e f = absurd (let z : ◌≡◌ {A = ℕ} 1 0 = ap (λ (t : Bool). cond t 1 0) e in omega arith)
absent_small (flags p) n a l e f = rw (eqb→eq n 3 f) (omega arith)
absent_small signed n a l e f = absurd (let z : ◌≡◌ {A = ℕ} 1 0 = ap (λ (t : Bool). cond t 1 0) e in omega arith)
absent_small lohi n a l e f = absurd (let z : ◌≡◌ {A = ℕ} 1 0 = ap (λ (t : Bool). cond t 1 0) e in omega arith)
absent_small allvc n a l e f = absurd (let z : ◌≡◌ {A = ℕ} 1 0 = ap (λ (t : Bool). cond t 1 0) e in omega arith)

-- a value put into its field leaves another field as it was
module _ (o : Operand) (s n : ℕ) (a : T (apart s n o.at o.bits)) where
  step_zero : (v x : ℕ) → v < 2 ^ o.bits → cut o.at o.bits x ≡ 0 → cut s n x ≡ 0 → cut s n (v * 2 ^ o.at + x) ≡ 0
  step_zero v x l z e = keeps o.at o.bits v x s n l z a ∙ e

  pub cond_zero : (t : Bool) (v x y : ℕ) → v < 2 ^ o.bits → (t ≡ false → 7 < 2 ^ o.bits) → cut o.at o.bits x ≡ 0 → cut o.at o.bits y ≡ 0 → cut s n x ≡ 0 → cut s n y ≡ 0
      → cut s n (cond t (v * 2 ^ o.at + x) (7 * 2 ^ o.at + y)) ≡ 0
  cond_zero true v x y l m p q e f = step_zero v x l p e
  cond_zero false v x y l m p q e f = step_zero 7 y (m refl) q f

gathered_zero : (os : List Operand) (ts : List (List ℕ)) → T (fines os) → T (disjoint os) → (s n : ℕ) → T (free s n os) → cut s n (gathered os ts) ≡ 0
unfolding gathered
gathered_zero [] ts f d s n a = rw (zero-div, zero-mod) refl
gathered_zero (o ∷ os) ts f d s n a =
    let f' = and_right (fine o.kind o.bits) (fines os) f in
    let d' = and_right (free o.at o.bits os) (disjoint os) d in
    let z = and_left (free o.at o.bits os) (disjoint os) d in
    let a' = and_right (apart s n o.at o.bits) (free s n os) a in
    cond_zero o s n (and_left (apart s n o.at o.bits) (free s n os) a) (present o.kind (length os) (length ts))
    (meant o.kind (S.first ts) % 2 ^ o.bits) (gathered os (drop 1 ts)) (gathered os ts) (mod-lt (meant o.kind (S.first ts)) (one-le-pow o.bits 2 (omega arith)))
    (λ e. absent_small o.kind o.bits (length os) (length ts) e (and_left (fine o.kind o.bits) (fines os) f))
    (gathered_zero os (drop 1 ts) f' d' o.at o.bits z) (gathered_zero os ts f' d' o.at o.bits z) (gathered_zero os (drop 1 ts) f' d' s n a') (gathered_zero os ts f' d' s n a')

module _ (t : List ℕ) where
  pub candidate_op : (op : ℕ) → op < 256 → op_of (candidate op t) ≡ op
  unfolding candidate
  candidate_op op h =
      self 24 8 op (gathered (operands_at op) (operand_texts op t)) h
      (gathered_zero (operands_at op) (operand_texts op t) (row_fines op h) (row_disjoint op h) 24 8 (row_free op h))

  pub candidate_some : (op : ℕ) → 128 ≤ op → op < 256 → candidate op t ≡ 0 → ⊥
  candidate_some op l h e = let o : op_of 0 ≡ op = ap (λ (x : ℕ). op_of x) (sym e) ∙ candidate_op op h in omega (arith, l, o)

  pub candidate_known : (op : ℕ) → op < 256 → T (documented op) → T (documented (op_of (candidate op t)))
  candidate_known op h d = rw (candidate_op op h) d

  -- a candidate whose line is the text is its own normal form
  candidate_normal : (op : ℕ) → op < 256 → line_of (candidate op t) ≡ t → normal_of (candidate op t) ≡ candidate op t
  candidate_normal op h e =
      sym (candidate_line (candidate op t)) ∙ ap (λ (k : ℕ). candidate k (line_of (candidate op t))) (candidate_op op h) ∙ ap (candidate op) e

  word_case : (s : Bool) → some (written_as t) (2 ^ 32) ≡ s → (w : ℕ) → T (documented (op_of w)) → line_of w ≡ t → normal_of w ≡ w → w < 2 ^ 32
      → w ≡ cond s (normal_of (first (written_as t) (2 ^ 32))) 0
  word_case true q w d e n l =
      let p = (first_passes (written_as t) (2 ^ 32) q).1 in
      sym (one_line (first (written_as t) (2 ^ 32)) w (written_known t (first (written_as t) (2 ^ 32)) p) d (written_line t (first (written_as t) (2 ^ 32)) p ∙ sym e) ∙ n)
  word_case false q w d e n l =
      absurd (let z : ◌≡◌ {A = ℕ} 1 0 = ap (λ (b : Bool). cond b 1 0) (sym (some_passes (written_as t) (2 ^ 32) w (is_written t w d e) l) ∙ q) in omega arith)

  -- it is what the text is read as
  pub accepts : (op : ℕ) → op < 256 → T (documented op) → candidate op t < 2 ^ 32 → line_of (candidate op t) ≡ t → candidate op t ≡ word_in t
  unfolding word_in
  accepts op h d l e =
      word_case (some (written_as t) (2 ^ 32)) refl (candidate op t) (candidate_known op h d) e (candidate_normal op h e) l

  -- a word that is written so is its opcode's candidate, up to its normal form
  written_candidate : (w : ℕ) → line_of w ≡ t → line_of (candidate (op_of w) t) ≡ t
  written_candidate w e = let c : candidate (op_of w) t ≡ normal_of w = ap (candidate (op_of w)) (sym e) ∙ candidate_line w in ap line_of c ∙ normal_line w ∙ e

  -- no opcode's candidate is written so: no word is
  pub refuses : ((op : ℕ) → 128 ≤ op → op < 224 → T (documented op) → line_of (candidate op t) ≡ t → ⊥) → 0 ≡ word_in t
  unfolding word_in
  refuses f =
      sym (ap (λ (s : Bool). cond s (normal_of (first (written_as t) (2 ^ 32))) 0) (none_passes (written_as t) (2 ^ 32) (λ w l p.
      let d = written_known t w p in let r = documented_range (op_of w) (op_small w) d in
      f (op_of w) r.0 r.1 d (written_candidate w (written_line t w p)))))

  -- an opcode whose name is not the text's has another line
  pub other_name : (h op : ℕ) → op < 256 → ((k : ℕ) → k < 256 → named_by t k ≡ bears h k) → (head_code op ≡ h → ⊥) → T (documented op) → line_of (candidate op t) ≡ t → ⊥
  other_name h op l names z d e =
      let q : up_to (name_at op) ≡ up_to t = ap (λ (k : ℕ). up_to (name_at k)) (sym (candidate_op op l)) ∙ sym (line_name (candidate op t)) ∙ ap up_to e in
      z (bears_is h op (subst T (names op l) (named_by_lem t op d q)))

  -- ---- one opcode tried
  pub tried_other : (op : ℕ) → (T (documented op) → line_of (candidate op t) ≡ t → ⊥) → 0 ≡ tried_at op t
  unfolding tried_at
  tried_other op f = go (documented op) (eqs (line_of (candidate op t)) t) f (eqs_eq (line_of (candidate op t)) t)
    where
      go : (d e : Bool) → (T d → line_of (candidate op t) ≡ t → ⊥) → (T e → line_of (candidate op t) ≡ t) → 0 ≡ cond (d && e) (candidate op t) 0
      go true true f g = absurd (f tt (g tt))
      go true false f g = refl
      go false e f g = refl

  pub tried_line : (op : ℕ) → T (documented op) → eqs (line_of (candidate op t)) t ≡ true → candidate op t ≡ tried_at op t
  unfolding tried_at
  tried_line op d e = rw (T_true (documented op) d, e) refl

  pub tried_wrong : (op : ℕ) → eqs (line_of (candidate op t)) t ≡ false → 0 ≡ tried_at op t
  tried_wrong op e = tried_other op (λ d q. subst T (sym (ap (λ (x : List ℕ). eqs x t) q) ∙ e) (eqs_refl t))

  -- what is not 0 is accepted; and what is 0 is no line
  pub tried_found : (op : ℕ) → op < 256 → (w : ℕ) → w ≡ tried_at op t → w < 2 ^ 32 → (w ≡ 0 → ⊥) → w ≡ word_in t
  unfolding tried_at
  tried_found op h w q l z = go (documented op) (eqs (line_of (candidate op t)) t) refl refl q
    where
      go : (d e : Bool) → documented op ≡ d → eqs (line_of (candidate op t)) t ≡ e → w ≡ cond (d && e) (candidate op t) 0 → w ≡ word_in t
      go true true p r q = q ∙ accepts op h (subst T (sym p) tt) (subst (λ (x : ℕ). x < 2 ^ 32) q l) (eqs_eq (line_of (candidate op t)) t (subst T (sym r) tt))
      go true false p r q = absurd (z q)
      go false e p r q = absurd (z q)

  pub tried_none : (op : ℕ) → 128 ≤ op → op < 224 → tried_at op t ≡ 0 → T (documented op) → line_of (candidate op t) ≡ t → ⊥
  unfolding tried_at
  tried_none op l m q d e =
      let r : candidate op t ≡ 0 = sym (rw (T_true (documented op) d, T_true (eqs (line_of (candidate op t)) t) (rw e (eqs_refl t))) refl) ∙ q in
      candidate_some op l (omega arith) r

  -- no opcode of another name is written so
  pub passed_over : (h : ℕ) → ((k : ℕ) → k < 256 → named_by t k ≡ bears h k) → (op : ℕ) → op < 256 → (head_code op ≡ h → ⊥) → tried_at op t ≡ 0
  passed_over h names op l z = sym (tried_other op (other_name h op l names z))

  -- ---- the call's answers, from what the code has found out
  pub read_unended : one_feed t ≡ false → unread Unended ≡ read_of t
  unfolding read_of
  read_unended f = rw f refl

  some_same : (h : ℕ) → ((k : ℕ) → k < 256 → named_by t k ≡ bears h k) → (r : Bool) → some (bears h) 256 ≡ r → some (named_by t) 256 ≡ r
  some_same h names true e = let p = first_passes (bears h) 256 e in some_passes (named_by t) 256 (first (bears h) 256) (rw (names (first (bears h) 256) p.0) p.1) p.0
  some_same h names false e = none_passes (named_by t) 256 (λ op l p. none op l (subst T (names op l) p))
    where
      none : (op : ℕ) → op < 256 → T (bears h op) → ⊥
      none op l p = let z : ◌≡◌ {A = ℕ} 1 0 = ap (λ (b : Bool). cond b 1 0) (sym (some_passes (bears h) 256 op p l) ∙ e) in omega arith

  module _ (h : ℕ) (names : (k : ℕ) → k < 256 → named_by t k ≡ bears h k) (f : one_feed t ≡ true) where
    pub read_unnamed : some (bears h) 256 ≡ false → unread Unnamed ≡ read_of t
    unfolding read_of
    read_unnamed k = rw (f, some_same h names false k) refl

    zero_word : (s : Bool) → some (written_as t) (2 ^ 32) ≡ s → cond s (normal_of (first (written_as t) (2 ^ 32))) 0 ≡ 0 → s ≡ false
    zero_word true q e =
        let p = (first_passes (written_as t) (2 ^ 32) q).1 in
        let d = written_known t (first (written_as t) (2 ^ 32)) p in
        let r = documented_range (op_of (first (written_as t) (2 ^ 32))) (op_small (first (written_as t) (2 ^ 32))) d in
        let o : op_of 0 ≡ op_of (first (written_as t) (2 ^ 32)) = ap (λ (x : ℕ). op_of x) (sym e) ∙ normal_op (first (written_as t) (2 ^ 32)) in
        absurd (let z : ◌≡◌ {A = ℕ} 0 (op_of (first (written_as t) (2 ^ 32))) = o in omega (arith, r.0))
    zero_word false q e = refl

    pub read_amiss : some (bears h) 256 ≡ true → word_in t ≡ 0 → unread Amiss ≡ read_of t
    unfolding read_of word_in
    read_amiss k e = rw (f, some_same h names true k, zero_word (some (written_as t) (2 ^ 32)) refl e) refl

    done_word : (s : Bool) (w : ℕ) → w ≡ cond s (normal_of (first (written_as t) (2 ^ 32))) 0 → (w ≡ 0 → ⊥) → (s ≡ true) × (w ≡ normal_of (first (written_as t) (2 ^ 32)))
    done_word true w e z = (refl, e)
    done_word false w e z = absurd (z e)

    pub read_done : some (bears h) 256 ≡ true → (w : ℕ) → w ≡ word_in t → (w ≡ 0 → ⊥) → got (number Done) w ≡ read_of t
    unfolding read_of word_in
    read_done k w e z = let r = done_word (some (written_as t) (2 ^ 32)) w e z in rw (f, some_same h names true k, r.0, r.1) refl
