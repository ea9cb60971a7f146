-- Lines of different opcodes differ: the first text and what each later text begins with tell the opcode.
use mathlib.Core.Path.{◌≡◌, refl, ap, ◌∙◌, sym, subst}
use mathlib.Core.Bool.{Bool, true, false, cond, ◌&&◌, ◌||◌}
use mathlib.Core.List.{List, [], ◌∷◌, ◌++◌, map}
use Prim.Native.Nat.{ℕ, zero, suc, ◌-◌, ◌^◌, ◌<◌}
use native.Mathlib.Nat.{not-suc-le-zero, le_of_suc-le-suc, eq-or-lt_of_le}
use native.Mathlib.Omega.{arith}
use mathlib.Core.Logic.{⊎_elim}
use borrow.Author.Tests.{ltb-true, eqb-true}
use lib.Dec.{T, ltb, eqb, eqb→eq, lt→ltb, ltb→lt}
use lib.ListN.{get_or}
use Rattle.names.specs.Line.{Kind, number, flags, signed, lohi, allvc, Operand, ascii, numeral, shown, text_of, value_of, texts_of, ended}
use Rattle.names.specs.Table.{rows, row_at, documented, name_at, operands_at, op_of, line_of, normal_of}
use Rattle.names.specs.Calls.{eqs}
use Rattle.names.specs.Inner.Code.{packed}
use Rattle.names.specs.Inner.Scan.{split, candidate}
use Rattle.names.proofs.Tests.{and_left, and_right, all, below}
use Rattle.names.proofs.Gather.{fine, flagless, solid, alone, sound}
use Rattle.names.proofs.Split.{split_name, split_ended, texts_plain}
use Rattle.names.proofs.Fields.{fines, value_small}
use Rattle.names.proofs.Rows.{op_small, row_sound, row_clean, row_fines, row_feedless, candidate_line, normal_line}

-- what a text begins with: a number 3, lo or hi 4, a register with a c in third place 1, another register 2
abbrev pub starts : ℕ → ℕ → ℕ
starts b c =
    cond (eqb b 48 || eqb b 45) 3 (cond (eqb b 108 || eqb b 104) 4 (cond (eqb b 36) (cond (eqb c 99) 1 2) b))

abbrev pub class : List ℕ → ℕ
class t = starts (get_or t 0 0) (get_or t 2 0)

abbrev pub class_of : Kind → ℕ
class_of (number b p) = class (p ++ (48 ∷ []))
class_of (flags p) = class (p ++ (48 ∷ []))
class_of signed = 3
class_of lohi = 4
class_of allvc = 1

-- a text's class does not depend on the value: by the first byte, or at each value
abbrev pub classed : Kind → ℕ → Bool
classed (number b p) n = eqb (get_or p 0 0) 48 || all (λ x. eqb (class (p ++ numeral 4 b x)) (class_of (number b p))) (2 ^ n)
classed (flags p) n = all (λ x. eqb (class (p ++ numeral 4 10 x)) (class_of (flags p))) 4
classed signed n = true
classed lohi n = true
classed allvc n = true

hex_class : (p d e : List ℕ) → get_or p 0 0 ≡ 48 → class (p ++ d) ≡ class (p ++ e)
hex_class [] d e h = absurd (omega arith)
hex_class (c ∷ p) d e h = rw h refl

signed_class : (x : ℕ) (t : Bool) → class (cond t (ascii "0x" ++ numeral 4 16 x) (ascii "-0x" ++ numeral 4 16 (2048 - x))) ≡ 3
signed_class x true = refl
signed_class x false = refl

lohi_class : (t : Bool) → class (cond t (ascii "lo") (ascii "hi")) ≡ 4
lohi_class true = refl
lohi_class false = refl

number_class : (b : ℕ) (p : List ℕ) (n : ℕ) (t : Bool) → eqb (get_or p 0 0) 48 ≡ t
    → T (t || all (λ x. eqb (class (p ++ numeral 4 b x)) (class_of (number b p))) (2 ^ n)) → (x : ℕ) → x < 2 ^ n → class (p ++ numeral 4 b x) ≡ class_of (number b p)
number_class b p n true e c x h = hex_class p (numeral 4 b x) (48 ∷ []) (eqb-true _ _ e)
number_class b p n false e c x h = eqb→eq _ _ (below (λ x. eqb (class (p ++ numeral 4 b x)) (class_of (number b p))) (2 ^ n) c x h)

pub text_class : (k : Kind) (n : ℕ) → T (classed k n) → (x : ℕ) → x < 2 ^ n → T (shown k x) → class (text_of k x) ≡ class_of k
text_class (number b p) n c x h s = number_class b p n (eqb (get_or p 0 0) 48) refl c x h
text_class (flags p) n c x h s = eqb→eq _ _ (below (λ x. eqb (class (p ++ numeral 4 10 x)) (class_of (flags p))) 4 c x (ltb→lt x 4 s))
text_class signed n c x h s = signed_class x (ltb x 1024)
text_class lohi n c x h s = lohi_class (eqb x 0)
text_class allvc n c x h s = refl

-- ---- the classes of a row's texts, with its flags register or without
abbrev pub with_class : Kind → Bool → List ℕ → List ℕ
with_class (number b p) f cs = class_of (number b p) ∷ cs
with_class (flags p) f cs = cond f (class_of (flags p) ∷ cs) cs
with_class signed f cs = 3 ∷ cs
with_class lohi f cs = 4 ∷ cs
with_class allvc f cs = 1 ∷ cs

abbrev pub classes : List Operand → Bool → List ℕ
classes [] f = []
classes (o ∷ os) f = with_class o.kind f (classes os f)

abbrev pub all_classed : List Operand → Bool
all_classed [] = true
all_classed (o ∷ os) = classed o.kind o.bits && all_classed os

with_flagless : (k : Kind) (f g : Bool) (cs : List ℕ) → T (flagless k) → with_class k f cs ≡ with_class k g cs
with_flagless (number b p) f g cs t = refl
with_flagless (flags p) f g cs t = absurd t
with_flagless signed f g cs t = refl
with_flagless lohi f g cs t = refl
with_flagless allvc f g cs t = refl

classes_solid : (os : List Operand) (f g : Bool) → T (solid os) → classes os f ≡ classes os g
classes_solid [] f g t = refl
classes_solid (o ∷ os) f g t =
    ap (with_class o.kind f) (classes_solid os f g (and_right (flagless o.kind) (solid os) t))
    ∙ with_flagless o.kind f g (classes os g) (and_left (flagless o.kind) (solid os) t)

abbrev Classes : List Operand → List (List ℕ) → Type 0
Classes os ts = (f : Bool) × (map class ts ≡ classes os f)

flag_classes : (p : List ℕ) (n v : ℕ) (os : List Operand) (ts : List (List ℕ)) (at : ℕ) (t : Bool) → ltb v 4 ≡ t → T (classed (flags p) n) → v < 2 ^ n → T (solid os)
    → Classes os ts → Classes (record { kind = flags p; at = at; bits = n } ∷ os) (cond t (text_of (flags p) v ∷ ts) ts)
flag_classes p n v os ts at true e c h s r =
    (true, rw (text_class (flags p) n c v h (lt→ltb v 4 (ltb-true v 4 e))) (ap (λ (l : List ℕ). class_of (flags p) ∷ l) (r.1 ∙ classes_solid os r.0 true s)))
flag_classes p n v os ts at false e c h s r = (false, r.1 ∙ classes_solid os r.0 false s)

one_class : (k : Kind) (at n : ℕ) (os : List Operand) (ts : List (List ℕ)) (v : ℕ) → T (classed k n) → v < 2 ^ n → T (alone k os)
    → Classes os ts → Classes (record { kind = k; at = at; bits = n } ∷ os) (cond (shown k v) (text_of k v ∷ ts) ts)
one_class (number b p) at n os ts v c h a r = (r.0, rw (text_class (number b p) n c v h tt, r.1) refl)
one_class (flags p) at n os ts v c h a r = flag_classes p n v os ts at (ltb v 4) refl c h a r
one_class signed at n os ts v c h a r = (r.0, rw (text_class signed n c v h tt, r.1) refl)
one_class lohi at n os ts v c h a r = (r.0, rw (text_class lohi n c v h tt, r.1) refl)
one_class allvc at n os ts v c h a r = (r.0, rw r.1 refl)

pub text_classes : (os : List Operand) (w : ℕ) → T (all_classed os) → T (fines os) → T (sound os) → Classes os (texts_of os w)
unfolding texts_of
text_classes [] w c f s = (true, refl)
text_classes (o ∷ os) w c f s =
    let s' = and_right (fine o.kind o.bits) (alone o.kind os && sound os) s in
    one_class o.kind o.at o.bits os (texts_of os w) (value_of o w)
    (and_left (classed o.kind o.bits) (all_classed os) c)
    (value_small o w (and_left (fine o.kind o.bits) (fines os) f))
    (and_left (alone o.kind os) (sound os) s')
    (text_classes os w (and_right (classed o.kind o.bits) (all_classed os) c) (and_right (fine o.kind o.bits) (fines os) f) (and_right (alone o.kind os) (sound os) s'))

-- ---- the line's sign
abbrev pub sign : List ℕ → List ℕ
sign t = packed 1 (split t).0 ∷ map class (split t).1

unfoldable pub sign_at : ℕ → Bool → List ℕ
sign_at op f = packed 1 (split (name_at op)).0 ∷ (map class (split (name_at op)).1 ++ classes (operands_at op) f)

map_append : (f : List ℕ → ℕ) (s t : List (List ℕ)) → map f (s ++ t) ≡ map f s ++ map f t
map_append f [] t = refl
map_append f (x ∷ s) t = ap (λ (l : List ℕ). f x ∷ l) (map_append f s t)

row_classed : (op : ℕ) → op < 256 → T (all_classed (operands_at op))
unfolding row_at rows numeral
row_classed = below (λ op. all_classed (operands_at op)) 256 tt

pub sign_line : (w : ℕ) → (f : Bool) × (sign (line_of w) ≡ sign_at (op_of w) f)
unfolding line_of sign_at
sign_line w =
    let c = row_classed (op_of w) (op_small w) in
    let n = row_feedless (op_of w) (op_small w) in
    let ts : List (List ℕ) = texts_of (operands_at (op_of w)) w in
    let r = text_classes (operands_at (op_of w)) w c (row_fines (op_of w) (op_small w)) (row_sound (op_of w) (op_small w)) in
    let e = split_name (name_at (op_of w)) (ended ts) ts n (split_ended ts (texts_plain (operands_at (op_of w)) w (row_clean (op_of w) (op_small w)))) in (
      r.0,
      rw (e, map_append class (split (name_at (op_of w))).1 ts)
          (ap (λ (l : List ℕ). packed 1 (split (name_at (op_of w))).0 ∷ (map class (split (name_at (op_of w))).1 ++ l)) r.1),
    )

-- ---- the sign tells the opcode
abbrev pub Entries : Type 0
Entries = List (ℕ × List ℕ)

abbrev pub lookup : List ℕ → Entries → ℕ
lookup s [] = 0
lookup s (e ∷ r) = cond (eqs s e.1) e.0 (lookup s r)

abbrev pub entries : ℕ → Entries
entries zero = []
entries (suc n) = cond (documented n) ((n, sign_at n true) ∷ (n, sign_at n false) ∷ entries n) (entries n)

abbrev pub agree : Entries → Entries → Bool
agree [] m = true
agree (e ∷ r) m = eqb (lookup e.1 m) e.0 && agree r m

entry : (m : Entries) (n : ℕ) (t : Bool) → documented n ≡ t → T (agree (cond t ((n, sign_at n true) ∷ (n, sign_at n false) ∷ entries n) (entries n)) m) → T t → (f : Bool) → lookup (sign_at n f) m ≡ n
entry m n true e a d true = eqb→eq _ _ (and_left (eqb (lookup (sign_at n true) m) n) _ a)
entry m n true e a d false = eqb→eq _ _ (and_left (eqb (lookup (sign_at n false) m) n) _ (and_right (eqb (lookup (sign_at n true) m) n) _ a))
entry m n false e a d f = absurd d

later : (m : Entries) (n : ℕ) (t : Bool) → T (agree (cond t ((n, sign_at n true) ∷ (n, sign_at n false) ∷ entries n) (entries n)) m) → T (agree (entries n) m)
later m n true a = and_right (eqb (lookup (sign_at n false) m) n) _ (and_right (eqb (lookup (sign_at n true) m) n) _ a)
later m n false a = a

agreed : (m : Entries) (n : ℕ) → T (agree (entries n) m) → (op : ℕ) → op < n → T (documented op) → (f : Bool) → lookup (sign_at op f) m ≡ op
agreed m zero a op h d f = absurd (not-suc-le-zero h)
agreed m (suc n) a op h d f =
    ⊎_elim
    (λ (e : op ≡ n). rw e (entry m n (documented n) refl a (subst (λ (x : ℕ). T (documented x)) e d) f))
    (λ (l : op < n). agreed m n (later m n (documented n) a) op l d f)
    (eq-or-lt_of_le (le_of_suc-le-suc h))

table_agrees : T (agree (entries 256) (entries 256))
unfolding row_at rows sign_at split packed
table_agrees = tt

pub same_op : (w v : ℕ) → T (documented (op_of w)) → T (documented (op_of v)) → line_of w ≡ line_of v → op_of w ≡ op_of v
same_op w v d e h =
    let a = sign_line w in
    let b = sign_line v in
    sym (agreed (entries 256) 256 table_agrees (op_of w) (op_small w) d a.0)
    ∙ ap (λ (s : List ℕ). lookup s (entries 256)) (sym a.1 ∙ ap sign h ∙ b.1)
    ∙ agreed (entries 256) 256 table_agrees (op_of v) (op_small v) e b.0

-- two documented words have one line exactly if they have one normal form
pub one_line : (w v : ℕ) → T (documented (op_of w)) → T (documented (op_of v)) → line_of w ≡ line_of v → normal_of w ≡ normal_of v
one_line w v d e h = sym (candidate_line w) ∙ ap (λ (t : List ℕ). candidate (op_of w) t) h ∙ ap (λ (op : ℕ). candidate op (line_of v)) (same_op w v d e h) ∙ candidate_line v

pub one_normal : (w v : ℕ) → normal_of w ≡ normal_of v → line_of w ≡ line_of v
one_normal w v h = sym (normal_line w) ∙ ap line_of h ∙ normal_line v
