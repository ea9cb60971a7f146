-- The line of a word, from its name and the packed texts of its operands.
use mathlib.Core.Path.{◌≡◌, refl, ap, ◌∙◌, sym, subst}
use mathlib.Core.Bool.{Bool, true, false, cond, ◌&&◌, not}
use mathlib.Core.List.{List, [], ◌∷◌, ◌++◌, append_assoc, append-nil}
use Prim.Native.Nat.{ℕ, zero, suc, ◌+◌, ◌*◌, ◌-◌, ◌/◌, ◌%◌, ◌^◌, ◌<◌, ◌≤◌}
use native.Mathlib.Nat.{mod-eq_of_lt, div-eq_of_lt, div-lt_iff_lt-mul, le_trans}
use Rattle.names.proofs.Rows.{op_small}
use native.Mathlib.Omega.{arith}
use borrow.Author.Tests.{lt-ltb, le-ltb}
use lib.Dec.{T_not, T, ltb, leb, eqb, ltb→lt, leb→le}
use lib.ListN.{length, get_or-eq_default}
use Rattle.names.specs.Line.{Operand, shown, text_of, value_of, texts_of, ended}
use Rattle.names.specs.Table.{row_at, rows, half, operands_at, documented, name_at, op_of, line_of}
use Rattle.names.specs.Calls.{eqs}
use Rattle.names.specs.Inner.Code.{packed, last_of, unpacked, piece_of, piece_at, slots, slot_at, listed, name_code}
use Rattle.names.proofs.Tests.{and_left, and_right, below, both, eqs_eq, T_true}
use native.Mathlib.Decide.{dec_lt}
use Rattle.names.proofs.Gather.{fine}
use Rattle.names.proofs.Split.{inner, inner_byte, plain, clear, text_plain}
use Rattle.names.proofs.Fields.{value_small}
use Rattle.names.proofs.Widths.{width_of, text_width}

-- ---- unpacking what is packed
pub unpack_small : (k n : ℕ) → n < 256 → unpacked k n ≡ []
unfolding unpacked last_of
unpack_small zero n h = refl
unpack_small (suc k) n h = rw (lt-ltb n 256 h, div-eq_of_lt h, unpack_small k 0 (omega arith)) refl

abbrev pub bytes : List ℕ → Bool
bytes [] = true
bytes (b ∷ bs) = ltb b 256 && bytes bs

unpack_byte : (k n b : ℕ) → 0 < n → b < 256 → unpacked (suc k) (n * 256 + b) ≡ unpacked k n ++ (b ∷ [])
unfolding unpacked last_of
unpack_byte k n b p h =
    let q : (n * 256 + b) / 256 ≡ n = omega arith in
    let m : (n * 256 + b) % 256 ≡ b = omega arith in
    rw (le-ltb (n * 256 + b) 256 (omega arith), q, m) refl

unpack_more : (t : List ℕ) (k n : ℕ) → 0 < n → T (bytes t) → unpacked (length t + k) (packed n t) ≡ unpacked k n ++ t
unfolding packed
unpack_more [] k n p h = ap (λ (m : ℕ). unpacked m n) (omega arith) ∙ sym (append-nil (unpacked k n))
unpack_more (b ∷ t) k n p h =
    let l : b < 256 = ltb→lt b 256 (and_left (ltb b 256) (bytes t) h) in
    ap (λ (m : ℕ). unpacked m (packed (n * 256 + b) t)) (omega arith)
    ∙ unpack_more t (suc k) (n * 256 + b) (omega arith) (and_right (ltb b 256) (bytes t) h)
    ∙ ap (λ (u : List ℕ). u ++ t) (unpack_byte k n b p l)
    ∙ append_assoc (unpacked k n) (b ∷ []) t

pub unpack : (t : List ℕ) → T (bytes t) → length t ≤ 7 → unpacked 7 (packed 1 t) ≡ t
unpack t h l =
    ap (λ (m : ℕ). unpacked m (packed 1 t)) (omega arith)
    ∙ unpack_more t (7 - length t) 1 (omega arith) h
    ∙ ap (λ (u : List ℕ). u ++ t) (unpack_small (7 - length t) 1 (omega arith))

-- ---- a piece is at most seven bytes
pub bytes_append : (s t : List ℕ) → T (bytes s) → T (bytes t) → T (bytes (s ++ t))
bytes_append [] t p q = q
bytes_append (b ∷ s) t p q = both (ltb b 256) (bytes (s ++ t)) (and_left (ltb b 256) (bytes s) p) (bytes_append s t (and_right (ltb b 256) (bytes s) p) q)

plain_bytes : (t : List ℕ) → T (plain t) → T (bytes t)
plain_bytes [] p = tt
plain_bytes (b ∷ t) p = both (ltb b 256) (bytes t) (inner_byte b (and_left (inner b) (plain t) p)) (plain_bytes t (and_right (inner b) (plain t) p))

abbrev Short : List ℕ → Type 0
Short t = T (bytes t) × (length t ≤ 6)

-- a text of at most six bytes, with no space in it
abbrev fit : Operand → Bool
fit o = (fine o.kind o.bits && clear o.kind) && leb (width_of o.kind o.bits) 6

slot_fit : (o : ℕ) → o < 19 → T (fit (slot_at o))
unfolding slot_at
slot_fit = below (λ o. fit (slot_at o)) 19 tt

piece_cond : (s : Bool) (t : List ℕ) → (T s → Short t) → T (bytes (cond s (32 ∷ t) [])) × (length (cond s (32 ∷ t) []) ≤ 7)
piece_cond true t f = ((f tt).0, omega (arith, (f tt).1))
piece_cond false t f = (tt, omega arith)

piece_short : (o : Operand) (w : ℕ) → T (fit o) → T (bytes (piece_of o w)) × (length (piece_of o w) ≤ 7)
unfolding piece_of
piece_short o w f =
    let g = and_left (fine o.kind o.bits && clear o.kind) (leb (width_of o.kind o.bits) 6) f in
    let n = and_left (fine o.kind o.bits) (clear o.kind) g in
    let m : width_of o.kind o.bits ≤ 6 = leb→le _ _ (and_right (fine o.kind o.bits && clear o.kind) (leb (width_of o.kind o.bits) 6) f) in
    piece_cond (shown o.kind (value_of o w)) (text_of o.kind (value_of o w)) (λ s. (
      plain_bytes (text_of o.kind (value_of o w)) (text_plain o.kind o.bits (value_of o w) n (and_right (fine o.kind o.bits) (clear o.kind) g)),
      le_trans (text_width o.kind o.bits n (value_of o w) (value_small o w n) s) m,
    ))

all_fit : (o : ℕ) → T (fit (slot_at o))
unfolding slot_at
all_fit o = elim (dec_lt o 19) [ yes h ↦ slot_fit o h | no h ↦ rw (get_or-eq_default slots half (le_of_not o h)) tt ]
  where
    le_of_not : (o : ℕ) → (o < 19 → ⊥) → 19 ≤ o
    le_of_not o h = omega arith

at_cond : (t : Bool) (p : List ℕ) → T (bytes p) × (length p ≤ 7) → T (bytes (cond t [] p)) × (length (cond t [] p) ≤ 7)
at_cond true p r = (tt, omega arith)
at_cond false p r = r

pub piece_back : (o w : ℕ) → unpacked 7 (packed 1 (piece_at o w)) ≡ piece_at o w
unfolding piece_at
piece_back o w =
    let r = at_cond (eqb o 0) (piece_of (slot_at o) w) (piece_short (slot_at o) w (all_fit o)) in
    unpack (cond (eqb o 0) [] (piece_of (slot_at o) w)) r.0 r.1

-- ---- the pieces of a form are the line's texts
piece_first : (s : Bool) (t : List ℕ) (ts : List (List ℕ)) → ended (cond s (t ∷ ts) ts) ≡ cond s (32 ∷ t) [] ++ ended ts
unfolding ended
piece_first true t ts = refl
piece_first false t ts = refl

form_first : (b : Bool) (o : Operand) (os : List Operand) (w : ℕ) → ended (texts_of (cond b os (o ∷ os)) w) ≡ cond b [] (piece_of o w) ++ ended (texts_of os w)
unfolding texts_of piece_of
form_first true o os w = refl
form_first false o os w = piece_first (shown o.kind (value_of o w)) (text_of o.kind (value_of o w)) (texts_of os w)

listed_first : (k f w : ℕ) → ended (texts_of (listed (suc k) f) w) ≡ piece_at (f % 32) w ++ ended (texts_of (listed k (f / 32)) w)
unfolding listed piece_at
listed_first k f w = form_first (eqb (f % 32) 0) (slot_at (f % 32)) (listed k (f / 32)) w

listed_none : (f w : ℕ) → ended (texts_of (listed 0 f) w) ≡ 10 ∷ []
unfolding listed texts_of ended
listed_none f w = refl

abbrev pub pieces : ℕ → ℕ → List ℕ
pieces f w = piece_at (f % 32) w ++ (piece_at (f / 32 % 32) w ++ (piece_at (f / 32 / 32 % 32) w ++ (piece_at (f / 32 / 32 / 32 % 32) w ++ piece_at (f / 32 / 32 / 32 / 32 % 32) w)))

pub listed_five : (f w : ℕ) → ended (texts_of (listed 5 f) w)
    ≡ (piece_at (f % 32) w ++ (piece_at (f / 32 % 32) w ++ (piece_at (f / 32 / 32 % 32) w ++ (piece_at (f / 32 / 32 / 32 % 32) w ++ piece_at (f / 32 / 32 / 32 / 32 % 32) w)))) ++ (10 ∷ [])
listed_five f w =
    rw (listed_first 4 f w, listed_first 3 (f / 32) w, listed_first 2 (f / 32 / 32) w, listed_first 1 (f / 32 / 32 / 32) w, listed_first 0 (f / 32 / 32 / 32 / 32) w, listed_none (f / 32 / 32 / 32 / 32 / 32) w)
    (simp append_assoc)

-- ---- names
name_test : (op : ℕ) → op < 256 → T (eqs (unpacked 7 (packed 1 (name_at op))) (name_at op))
unfolding row_at rows packed unpacked last_of
name_test = below (λ op. eqs (unpacked 7 (packed 1 (name_at op))) (name_at op)) 256 tt

pub name_back : (op : ℕ) → op < 256 → T (documented op) → unpacked 7 (name_code op) ≡ name_at op
unfolding name_code
name_back op h d = rw (T_true (documented op) d) (eqs_eq (unpacked 7 (packed 1 (name_at op))) (name_at op) (name_test op h))

low : (op : ℕ) → op < 128 → T (documented op) → ⊥
unfolding row_at
low op h d = let e : documented op ≡ false = rw (lt-ltb op 128 h) refl in subst T e d

high_test : (k : ℕ) → k < 32 → T (not (documented (224 + k)))
unfolding row_at rows
high_test = below (λ k. not (documented (224 + k))) 32 tt

high : (op : ℕ) → 223 < op → op < 256 → T (documented op) → ⊥
high op h l d = T_not (documented op) (subst (λ (n : ℕ). T (not (documented n))) (omega arith) (high_test (op - 224) (omega arith))) d

pub documented_range : (op : ℕ) → op < 256 → T (documented op) → (128 ≤ op) × (op < 224)
documented_range op h d =
    (elim (dec_lt op 128) [ yes l ↦ absurd (low op l d) | no l ↦ omega arith ], elim (dec_lt 223 op) [ yes l ↦ absurd (high op l h d) | no l ↦ omega arith ])

pub op_plain : (w : ℕ) → w < 2 ^ 32 → op_of w ≡ w / 16777216
op_plain w h = mod-eq_of_lt ((div-lt_iff_lt-mul (omega arith)).1 h)

pub five : (x x1 x2 x3 x4 x5 a b c d e : List ℕ) → x1 ≡ x ++ a → x2 ≡ x1 ++ b → x3 ≡ x2 ++ c → x4 ≡ x3 ++ d → x5 ≡ x4 ++ e
    → x5 ≡ x ++ (a ++ (b ++ (c ++ (d ++ e))))
five x x1 x2 x3 x4 x5 a b c d e e1 e2 e3 e4 e5 = rw (e5, e4, e3, e2, e1) (simp append_assoc)

pub whole_line : (w n f : ℕ) (x1 x2 x3 : List ℕ) → w < 2 ^ 32 → T (documented (op_of w)) → n ≡ name_code (w / 16777216) → listed 5 f ≡ operands_at (w / 16777216)
    → x1 ≡ unpacked 7 n → x2 ≡ x1 ++ pieces f w → x3 ≡ x2 ++ (10 ∷ []) → x3 ≡ line_of w
unfolding line_of
whole_line w n f x1 x2 x3 l d e g e1 e2 e3 =
    let q : op_of w ≡ w / 16777216 = op_plain w l in
    let m : unpacked 7 n ≡ name_at (op_of w) = ap (unpacked 7) (e ∙ ap name_code (sym q)) ∙ name_back (op_of w) (op_small w) d in
    let o : listed 5 f ≡ operands_at (op_of w) = g ∙ ap (λ (k : ℕ). operands_at k) (sym q) in
    e3 ∙ ap (λ (x : List ℕ). x ++ (10 ∷ [])) (e2 ∙ ap (λ (x : List ℕ). x ++ pieces f w) (e1 ∙ m))
    ∙ append_assoc (name_at (op_of w)) (pieces f w) (10 ∷ [])
    ∙ ap (λ (x : List ℕ). name_at (op_of w) ++ x) (sym (listed_five f w) ∙ ap (λ (os : List Operand). ended (texts_of os w)) o)
