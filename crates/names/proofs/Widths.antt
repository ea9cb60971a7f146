-- How long texts and lines are: no line has more than 31 bytes.
use mathlib.Core.Path.{◌≡◌, refl}
use mathlib.Core.Bool.{Bool, true, false, cond}
use mathlib.Core.List.{List, [], ◌∷◌, ◌++◌}
use Prim.Native.Nat.{ℕ, ◌+◌, ◌-◌, ◌^◌, ◌<◌, ◌≤◌}
use native.Mathlib.Omega.{arith}
use borrow.Author.Tests.{ltb-true, ltb-false, leb-true}
use lib.Dec.{T, ltb, leb, eqb, leb→le, ltb→lt}
use lib.ListN.{length, length-append}
use Rattle.names.specs.Line.{Kind, number, flags, signed, lohi, allvc, Operand, ascii, numeral, shown, text_of, value_of, texts_of, ended}
use Rattle.names.specs.Table.{row_at, rows, name_at, operands_at, op_of, line_of}
use Rattle.names.proofs.Tests.{and_left, and_right, below}
use Rattle.names.proofs.Numeral.{numeral_few}
use Rattle.names.proofs.Gather.{fine}
use Rattle.names.proofs.Fields.{fines, value_small}
use Rattle.names.proofs.Rows.{op_small, row_fines}

-- so many digits hold a field of n bits
abbrev pub digits_in : ℕ → ℕ → ℕ
digits_in b n = cond (leb (2 ^ n) (b ^ 1)) 1 (cond (leb (2 ^ n) (b ^ 2)) 2 (cond (leb (2 ^ n) (b ^ 3)) 3 4))

-- the most bytes of an operand's text
abbrev pub width_of : Kind → ℕ → ℕ
width_of (number b p) n = length p + digits_in b n
width_of (flags p) n = length p + 1
width_of signed n = 6
width_of lohi n = 2
width_of allvc n = 3

module _ (b : ℕ) (two : 2 ≤ b) (few : b ≤ 16) (x m : ℕ) (h : x < m) where
  digits_fit : (r s t : Bool) → leb m (b ^ 1) ≡ r → leb m (b ^ 2) ≡ s → leb m (b ^ 3) ≡ t → m ≤ b ^ 4 → length (numeral 4 b x) ≤ cond r 1 (cond s 2 (cond t 3 4))
  digits_fit true s t e f g l = numeral_few b two few 4 0 x (omega (arith, leb-true m (b ^ 1) e))
  digits_fit false true t e f g l = numeral_few b two few 4 1 x (omega (arith, leb-true m (b ^ 2) f))
  digits_fit false false true e f g l = numeral_few b two few 4 2 x (omega (arith, leb-true m (b ^ 3) g))
  digits_fit false false false e f g l = numeral_few b two few 4 3 x (omega arith)

before : (p t : List ℕ) (n : ℕ) → length t ≤ n → length (p ++ t) ≤ length p + n
before p t n h = rw (length-append p t) (omega arith)

signed_width : (x : ℕ) (t : Bool) → ltb x 1024 ≡ t → length (cond t (ascii "0x" ++ numeral 4 16 x) (ascii "-0x" ++ numeral 4 16 (2048 - x))) ≤ 6
signed_width x true e = let l = before (ascii "0x") (numeral 4 16 x) 3 (numeral_few 16 (omega arith) (omega arith) 4 2 x (omega (arith, ltb-true x 1024 e))) in omega arith
signed_width x false e = let l = before (ascii "-0x") (numeral 4 16 (2048 - x)) 3 (numeral_few 16 (omega arith) (omega arith) 4 2 (2048 - x) (omega (arith, ltb-false x 1024 e))) in l

lohi_width : (t : Bool) → length (cond t (ascii "lo") (ascii "hi")) ≤ 2
lohi_width true = omega arith
lohi_width false = omega arith

pub text_width : (k : Kind) (n : ℕ) → T (fine k n) → (x : ℕ) → x < 2 ^ n → T (shown k x) → length (text_of k x) ≤ width_of k n
text_width (number b p) n f x h s =
    let f1 : T (leb 2 b) = and_left (leb 2 b) _ f in
    let g = and_right (leb 2 b) _ f in
    let f2 : T (leb b 16) = and_left (leb b 16) _ g in
    let f3 : 2 ^ n ≤ b ^ 4 = leb→le _ _ (and_left (leb (2 ^ n) (b ^ 4)) _ (and_right (leb b 16) _ g)) in
    before p (numeral 4 b x) (digits_in b n) (digits_fit b (leb→le _ _ f1) (leb→le _ _ f2) x (2 ^ n) h (leb (2 ^ n) (b ^ 1)) (leb (2 ^ n) (b ^ 2)) (leb (2 ^ n) (b ^ 3)) refl refl refl f3)
text_width (flags p) n f x h s = before p (numeral 4 10 x) 1 (numeral_few 10 (omega arith) (omega arith) 4 0 x (omega (arith, ltb→lt x 4 s)))
text_width signed n f x h s = signed_width x (ltb x 1024) refl
text_width lohi n f x h s = lohi_width (eqb x 0)
text_width allvc n f x h s = omega arith

-- ---- the line
abbrev pub widths : List Operand → ℕ
widths [] = 1
widths (o ∷ os) = 1 + width_of o.kind o.bits + widths os

shown_width : (s : Bool) (t : List ℕ) (ts : List (List ℕ)) (m n : ℕ) → (T s → length t ≤ m) → length (ended ts) ≤ n → length (ended (cond s (t ∷ ts) ts)) ≤ 1 + m + n
unfolding ended
shown_width true t ts m n h l = rw (length-append t (ended ts)) (omega (arith, h tt, l))
shown_width false t ts m n h l = omega arith

texts_width : (os : List Operand) (w : ℕ) → T (fines os) → length (ended (texts_of os w)) ≤ widths os
unfolding texts_of ended
texts_width [] w f = omega arith
texts_width (o ∷ os) w f =
    let g = and_left (fine o.kind o.bits) (fines os) f in
    shown_width (shown o.kind (value_of o w)) (text_of o.kind (value_of o w)) (texts_of os w) (width_of o.kind o.bits) (widths os)
    (text_width o.kind o.bits g (value_of o w) (value_small o w g)) (texts_width os w (and_right (fine o.kind o.bits) (fines os) f))

row_width : (op : ℕ) → op < 256 → T (leb (length (name_at op) + widths (operands_at op)) 31)
unfolding row_at rows
row_width = below (λ op. leb (length (name_at op) + widths (operands_at op)) 31) 256 tt

-- AN OUTPUT OF 31 BYTES is never too short
pub line_most : (w : ℕ) → length (line_of w) ≤ 31
unfolding line_of
line_most w =
    let r : length (name_at (op_of w)) + widths (operands_at (op_of w)) ≤ 31 = leb→le _ _ (row_width (op_of w) (op_small w)) in
    rw (length-append (name_at (op_of w)) (ended (texts_of (operands_at (op_of w)) w))) (omega (arith, texts_width (operands_at (op_of w)) w (row_fines (op_of w) (op_small w))))

-- and one line is as long
pub line_longest : length (line_of 0x9ffffff3) ≡ 31
unfolding numeral value_of texts_of ended rows row_at line_of
line_longest = refl
