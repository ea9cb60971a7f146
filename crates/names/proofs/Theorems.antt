-- Writing then reading a documented word gives its normal form; a text is accepted exactly if some word is written so; writing what was read gives the same text.
use mathlib.Core.Path.{◌≡◌, refl, ap, ◌∙◌, sym, subst}
use mathlib.Core.Bool.{Bool, true, false, cond, not}
use mathlib.Core.List.{List, [], ◌∷◌, ◌++◌}
use Prim.Native.Nat.{ℕ, ◌^◌}
use native.Mathlib.Omega.{arith}
use lib.Dec.{T, eqb}
use Rattle.terms.specs.Answers.{number}
use Rattle.terms.specs.declared.End.TheVariants.{Done, Unnamed, Amiss, Unended}
use Rattle.names.specs.Line.{ended, texts_of}
use Rattle.names.specs.Table.{documented, name_at, operands_at, op_of, line_of, normal_of}
use Rattle.names.specs.Calls.{Got, got, unread, eqs, one_feed, up_to, first, some, named_by, written_as, read_of}
use Rattle.names.proofs.Tests.{and_left, and_right, both, T_false, eqs_eq, eqs_refl}
use Rattle.names.proofs.First.{first_passes, some_passes}
use Rattle.names.proofs.Split.{plain, plains, inner, inner_feed, feedless, texts_plain}
use Rattle.names.proofs.Rows.{op_small, row_clean, row_feedless, normal_op, normal_line, normal_normal}
use Rattle.names.proofs.Apart.{one_line}
use Rattle.names.proofs.Bound.{normal_word}

-- ---- the line's shape
feed_past : (t r : List ℕ) → T (feedless t) → one_feed (t ++ r) ≡ one_feed r
unfolding one_feed
feed_past [] r h = refl
feed_past (b ∷ t) r h = rw (T_false (eqb b 10) (and_left (not (eqb b 10)) (feedless t) h)) (feed_past t r (and_right (not (eqb b 10)) (feedless t) h))

plain_feedless : (t : List ℕ) → T (plain t) → T (feedless t)
plain_feedless [] h = tt
plain_feedless (b ∷ t) h =
    both (not (eqb b 10)) (feedless t) (inner_feed b (and_left (inner b) (plain t) h)) (plain_feedless t (and_right (inner b) (plain t) h))

ended_feed : (ts : List (List ℕ)) → T (plains ts) → one_feed (ended ts) ≡ true
unfolding ended one_feed
ended_feed [] h = refl
ended_feed (t ∷ ts) h = feed_past t (ended ts) (plain_feedless t (and_left (plain t) (plains ts) h)) ∙ ended_feed ts (and_right (plain t) (plains ts) h)

-- a line's only line feed is its last byte
pub line_feed : (w : ℕ) → one_feed (line_of w) ≡ true
unfolding line_of
line_feed w =
    feed_past (name_at (op_of w)) (ended (texts_of (operands_at (op_of w)) w)) (row_feedless (op_of w) (op_small w))
    ∙ ended_feed (texts_of (operands_at (op_of w)) w) (texts_plain (operands_at (op_of w)) w (row_clean (op_of w) (op_small w)))

up_to_stop : (t r : List ℕ) → up_to r ≡ [] → up_to (t ++ r) ≡ up_to t
unfolding up_to
up_to_stop [] r e = e
up_to_stop (b ∷ t) r e = rw (up_to_stop t r e) refl

ended_stop : (ts : List (List ℕ)) → up_to (ended ts) ≡ []
unfolding up_to ended
ended_stop [] = refl
ended_stop (t ∷ ts) = refl

-- the name that a line begins with is its opcode's
pub line_name : (w : ℕ) → up_to (line_of w) ≡ up_to (name_at (op_of w))
unfolding line_of
line_name w = up_to_stop (name_at (op_of w)) (ended (texts_of (operands_at (op_of w)) w)) (ended_stop (texts_of (operands_at (op_of w)) w))

-- ---- what is written so
pub is_written : (t : List ℕ) (w : ℕ) → T (documented (op_of w)) → line_of w ≡ t → T (written_as t w)
unfolding written_as
is_written t w d e = both (documented (op_of w)) (eqs (line_of w) t) d (rw e (eqs_refl t))

pub written_known : (t : List ℕ) (w : ℕ) → T (written_as t w) → T (documented (op_of w))
unfolding written_as
written_known t w h = and_left (documented (op_of w)) (eqs (line_of w) t) h

pub written_line : (t : List ℕ) (w : ℕ) → T (written_as t w) → line_of w ≡ t
unfolding written_as
written_line t w h = eqs_eq (line_of w) t (and_right (documented (op_of w)) (eqs (line_of w) t) h)

pub named_by_lem : (t : List ℕ) (op : ℕ) → T (documented op) → up_to (name_at op) ≡ up_to t → T (named_by t op)
unfolding named_by
named_by_lem t op d e = both (documented op) (eqs (up_to (name_at op)) (up_to t)) d (rw e (eqs_refl (up_to t)))

-- ---- reading

-- a text that a word is written as is read as the word's normal form
pub read_is : (t : List ℕ) (w : ℕ) → T (documented (op_of w)) → line_of w ≡ t → read_of t ≡ got (number Done) (normal_of w)
unfolding read_of
read_is t w d e =
    let f : one_feed t ≡ true = ap one_feed (sym e) ∙ line_feed w in
    let n : some (named_by t) 256 ≡ true = some_passes (named_by t) 256 (op_of w) (named_by_lem t (op_of w) d (sym (line_name w) ∙ ap up_to e)) (op_small w) in
    let s : some (written_as t) (2 ^ 32) ≡ true =
    some_passes (written_as t) (2 ^ 32) (normal_of w) (is_written t (normal_of w) (rw (normal_op w) d) (normal_line w ∙ e)) (normal_word w d) in
    let p = (first_passes (written_as t) (2 ^ 32) s).1 in
    let q : normal_of (first (written_as t) (2 ^ 32)) ≡ normal_of w =
    one_line (first (written_as t) (2 ^ 32)) w (written_known t (first (written_as t) (2 ^ 32)) p) d (written_line t (first (written_as t) (2 ^ 32)) p ∙ sym e) in
    rw (f, n, s, q) refl

-- WRITING THEN READING a documented word gives its normal form
pub read_write : (w : ℕ) → T (documented (op_of w)) → read_of (line_of w) ≡ got (number Done) (normal_of w)
read_write w d = read_is (line_of w) w d refl

-- the normal form of a documented word is written as the word is, and is read as itself
pub read_normal : (w : ℕ) → T (documented (op_of w)) → read_of (line_of (normal_of w)) ≡ got (number Done) (normal_of w)
read_normal w d = ap read_of (normal_line w) ∙ read_write w d

unread_case : (t : List ℕ) (f n s : Bool) (w : ℕ) → some (written_as t) (2 ^ 32) ≡ s
    → cond (not f) (unread Unended) (cond (not n) (unread Unnamed) (cond (not s) (unread Amiss) (got (number Done) (normal_of (first (written_as t) (2 ^ 32)))))) ≡ got (number Done) w
    → (some (written_as t) (2 ^ 32) ≡ true) × (normal_of (first (written_as t) (2 ^ 32)) ≡ w)
unread_case t true true true w e h = (e, ap (λ (g : Got). g.word) h)
unread_case t true true false w e h = absurd (let z : ◌≡◌ {A = ℕ} 9 0 = ap (λ (g : Got). g.answer) h in omega arith)
unread_case t true false s w e h = absurd (let z : ◌≡◌ {A = ℕ} 8 0 = ap (λ (g : Got). g.answer) h in omega arith)
unread_case t false n s w e h = absurd (let z : ◌≡◌ {A = ℕ} 10 0 = ap (λ (g : Got). g.answer) h in omega arith)

-- a word that is read: documented, its own normal form, and written as the text
pub record Meant (t : List ℕ) (w : ℕ) : Type 0 where
  pub known : T (documented (op_of w))
  pub normal : normal_of w ≡ w
  pub line : line_of w ≡ t

-- READING THEN WRITING gives the same text
pub write_read : (t : List ℕ) (w : ℕ) → read_of t ≡ got (number Done) w → Meant t w
unfolding read_of
write_read t w h =
    let r = unread_case t (one_feed t) (some (named_by t) 256) (some (written_as t) (2 ^ 32)) w refl h in
    let p = (first_passes (written_as t) (2 ^ 32) r.0).1 in
    subst (Meant t) r.1
    (record {
      known = rw (normal_op (first (written_as t) (2 ^ 32))) (written_known t (first (written_as t) (2 ^ 32)) p);
      normal = normal_normal (first (written_as t) (2 ^ 32));
      line = normal_line (first (written_as t) (2 ^ 32)) ∙ written_line t (first (written_as t) (2 ^ 32)) p;
    })

-- ACCEPTED exactly if some word is written so
pub accepted_if : (t : List ℕ) (w : ℕ) → T (documented (op_of w)) → line_of w ≡ t → (read_of t).answer ≡ 0
accepted_if t w d e = ap (λ (g : Got). g.answer) (read_is t w d e)

pub accepted_only : (t : List ℕ) → (read_of t).answer ≡ 0 → T (documented (op_of (read_of t).word)) × (line_of (read_of t).word ≡ t)
accepted_only t h = let r = write_read t (read_of t).word (ap (λ (n : ℕ). got n (read_of t).word) h) in (r.known, r.line)
