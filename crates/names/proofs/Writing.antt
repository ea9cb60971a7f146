-- What writing gives, case by case, from what the code has found out.
use mathlib.Core.Path.{◌≡◌, refl, ap, ◌∙◌, sym}
use mathlib.Core.Bool.{Bool, true, false, cond, ◌||◌}
use mathlib.Core.List.{List, [], ◌∷◌, ◌++◌}
use Prim.Native.Nat.{ℕ, ◌+◌, ◌*◌, ◌/◌, ◌^◌, ◌<◌, ◌≤◌}
use native.Mathlib.Omega.{arith}
use borrow.Author.Tests.{lt-ltb, le-ltb}
use lib.Dec.{T, ltb}
use lib.ListN.{length, take, drop}
use lib.Seq.{length-take-le}
use Rattle.terms.specs.declared.Refusal.TheVariants.{Foreign, Undocumented}
use Rattle.terms.specs.Answers.{number}
use Rattle.terms.specs.declared.End.TheVariants.{Done, Refused, Short}
use Rattle.names.specs.Table.{documented, name_at, op_of, line_of}
use Rattle.names.specs.Calls.{wrote, unwritten, write_of}
use Rattle.names.specs.Inner.Code.{packed, name_code}
use Rattle.names.proofs.Tests.{T_true}
use Rattle.names.proofs.Lines.{op_plain}

pub packed_le : (n : ℕ) (t : List ℕ) → n ≤ packed n t
unfolding packed
packed_le n [] = omega arith
packed_le n (b ∷ t) = omega (arith, packed_le (n * 256 + b) t)

none_case : (t : Bool) (n : ℕ) → 1 ≤ n → cond t n 0 ≡ 0 → t ≡ false
none_case true n h e = absurd (omega arith)
none_case false n h e = refl

some_case : (t : Bool) (n : ℕ) → (cond t n 0 ≡ 0 → ⊥) → T t
some_case true n h = tt
some_case false n h = absurd (h refl)

module _ (w : ℕ) (l : w < 2 ^ 32) where
  no_name : name_code (w / 16777216) ≡ 0 → documented (op_of w) ≡ false
  unfolding name_code
  no_name e = rw (op_plain w l) (none_case (documented (w / 16777216)) (packed 1 (name_at (w / 16777216))) (packed_le 1 (name_at (w / 16777216))) e)

  pub has_name : (name_code (w / 16777216) ≡ 0 → ⊥) → T (documented (op_of w))
  unfolding name_code
  has_name h = rw (op_plain w l) (some_case (documented (w / 16777216)) (packed 1 (name_at (w / 16777216))) h)

  pub write_foreign : (out : List ℕ) → ltb (w / 16777216) 128 || ltb 223 (w / 16777216) ≡ true → unwritten (Refused Foreign) out ≡ write_of w out
  unfolding write_of
  write_foreign out r = rw (op_plain w l, r) refl

  module _ (r : ltb (w / 16777216) 128 || ltb 223 (w / 16777216) ≡ false) where
    pub write_none : (out : List ℕ) → name_code (w / 16777216) ≡ 0 → unwritten (Refused Undocumented) out ≡ write_of w out
    unfolding write_of
    write_none out e = rw (no_name e, op_plain w l, r) refl

    -- the line of a documented word, as the code has it
    module _ (d : T (documented (op_of w))) (n : ℕ) (x : List ℕ) (e : take n x ≡ line_of w) (s : n ≤ length x) where
      size : length (line_of w) ≡ n
      size = sym (ap length e) ∙ length-take-le n x s

      pub write_short : (out : List ℕ) → length out < n → unwritten Short out ≡ write_of w out
      unfolding write_of
      write_short out t = rw (T_true (documented (op_of w)) d, size, lt-ltb (length out) n t, op_plain w l, r) refl

      pub write_done : (out q : List ℕ) → n ≤ length out → q ≡ take n x ++ drop n out → wrote (number Done) n q ≡ write_of w out
      unfolding write_of
      write_done out q t f = rw (T_true (documented (op_of w)) d, size, le-ltb (length out) n t, op_plain w l, r, f, e) refl
