-- `names::take::taken` meets its contract: each arm gives the field of its operand.
use mathlib.Core.Path.{◌≡◌, refl, ◌∙◌, ap, sym, subst}
use mathlib.Core.Bool.{Bool, true, false, ◌||◌}
use mathlib.Core.List.{List, [], ◌∷◌}
use Prim.Native.Nat.{ℕ, ◌*◌, ◌%◌, ◌<◌, ◌≤◌}
use native.Mathlib.Nat.{mul-one, mod-eq_of_lt}
use native.Mathlib.Omega.{arith}
use native.Mathlib.Decide.{dec_lt}
use lib.ListN.{get_or-eq_default, drop}
use Rattle.names.specs.Table.{half}
use Rattle.names.specs.Inner.Scan.{split}
use Rattle.names.specs.Inner.Code.{slots, slot_at, taken_at}
use Rattle.names.proofs.Tests.{below}
use Rattle.words.proofs.Law.{Rest, keyed, unkeyed}
use lib.Dec.{T, eqb, eqb→eq}
use Rattle.names.proofs.take.taken.Goals as goal

-- the arms' numbers, the last arm's first
keys : List (List ℕ)
keys = (18 ∷ []) ∷ (17 ∷ []) ∷ (16 ∷ []) ∷ (15 ∷ []) ∷ (14 ∷ []) ∷ (13 ∷ []) ∷ (12 ∷ []) ∷ (11 ∷ []) ∷ (10 ∷ []) ∷ (9 ∷ []) ∷ (8 ∷ []) ∷ (7 ∷ []) ∷ (6 ∷ []) ∷ (5 ∷ []) ∷ (4 ∷ []) ∷ (3 ∷ []) ∷ (2 ∷ []) ∷ (1 ∷ []) ∷ []

or_zero : (o : ℕ) (t : Bool) → T (t || eqb o 0) → (T t → ⊥) → T (eqb o 0)
or_zero o true h f = absurd (f tt)
or_zero o false h f = h

last_arm : (t : List ℕ) (o : ℕ) → Rest o keys → taken_at 19 t ≡ taken_at o t
unfolding keys taken_at slot_at
last_arm t o r =
    elim (dec_lt o 19) [
      | yes h ↦ rw (eqb→eq o 0 (or_zero o (keyed o keys) (below (λ n. keyed n keys || eqb n 0) 19 tt o h) (unkeyed o keys r))) refl
      | no h ↦ let g : 19 ≤ o = omega arith in rw (get_or-eq_default slots half g) refl
    ]

half_word : (n : ℕ) → n < 65536 → n ≡ n % 65536 * 1
half_word n h = sym (mul-one (n % 65536) ∙ mod-eq_of_lt h)

arm : {r : ℕ} (k o : ℕ) (t : List ℕ) → o ≡ k → r ≡ taken_at k t → r ≡ taken_at o t
arm k o t e h = rw e h

pub returns-in-1 : goal.returns-in-1
unfolding taken_at slot_at
returns-in-1 c = (arm 1 c.args.o (split (drop c.args.at c.args.text.now)).0 c.in-1.is (ap (λ (n : ℕ). n % 32 * 524288) c.digits.ensures.0), omega arith)

pub returns-in-2 : goal.returns-in-2
unfolding taken_at slot_at
returns-in-2 c = (arm 2 c.args.o (split (drop c.args.at c.args.text.now)).0 c.in-2.is (ap (λ (n : ℕ). n % 32 * 16384) c.digits-in-2.ensures.0), omega arith)

pub returns-in-3 : goal.returns-in-3
unfolding taken_at slot_at
returns-in-3 c = (arm 3 c.args.o (split (drop c.args.at c.args.text.now)).0 c.in-3.is (ap (λ (n : ℕ). n % 32 * 512) c.digits-in-3.ensures.0), omega arith)

pub returns-in-4 : goal.returns-in-4
unfolding taken_at slot_at
returns-in-4 c = (arm 4 c.args.o (split (drop c.args.at c.args.text.now)).0 c.in-4.is (ap (λ (n : ℕ). n % 32 * 524288) c.digits-in-4.ensures.0), omega arith)

pub returns-in-5 : goal.returns-in-5
unfolding taken_at slot_at
returns-in-5 c = (arm 5 c.args.o (split (drop c.args.at c.args.text.now)).0 c.in-5.is (ap (λ (n : ℕ). n % 32 * 16384) c.digits-in-5.ensures.0), omega arith)

pub returns-in-6 : goal.returns-in-6
unfolding taken_at slot_at
returns-in-6 c = (arm 6 c.args.o (split (drop c.args.at c.args.text.now)).0 c.in-6.is (ap (λ (n : ℕ). n % 32 * 524288) c.digits-in-6.ensures.0), omega arith)

pub returns-in-7 : goal.returns-in-7
unfolding taken_at slot_at
returns-in-7 c = (arm 7 c.args.o (split (drop c.args.at c.args.text.now)).0 c.in-7.is (ap (λ (n : ℕ). n % 32 * 16384) c.digits-in-7.ensures.0), omega arith)

pub returns-in-8 : goal.returns-in-8
unfolding taken_at slot_at
returns-in-8 c = (arm 8 c.args.o (split (drop c.args.at c.args.text.now)).0 c.in-8.is (ap (λ (n : ℕ). n % 32 * 512) c.digits-in-8.ensures.0), omega arith)

pub returns-in-9 : goal.returns-in-9
unfolding taken_at slot_at
returns-in-9 c = (arm 9 c.args.o (split (drop c.args.at c.args.text.now)).0 c.in-9.is (ap (λ (n : ℕ). n % 32 * 16) c.digits-in-9.ensures.0), omega arith)

pub returns-in-10 : goal.returns-in-10
unfolding taken_at slot_at
returns-in-10 c = (arm 10 c.args.o (split (drop c.args.at c.args.text.now)).0 c.in-10.is (ap (λ (n : ℕ). n % 8) c.digits-in-10.ensures.0 ∙ sym (mul-one _)), omega arith)

pub returns-in-11 : goal.returns-in-11
unfolding taken_at slot_at
returns-in-11 c = (arm 11 c.args.o (split (drop c.args.at c.args.text.now)).0 c.in-11.is (ap (λ (n : ℕ). n % 8) c.digits-in-11.ensures.0 ∙ sym (mul-one _)), omega arith)

pub returns-in-12 : goal.returns-in-12
unfolding taken_at slot_at
returns-in-12 c = (arm 12 c.args.o (split (drop c.args.at c.args.text.now)).0 c.in-12.is refl, omega arith)

pub returns-in-13 : goal.returns-in-13
unfolding taken_at slot_at
returns-in-13 c = (arm 13 c.args.o (split (drop c.args.at c.args.text.now)).0 c.in-13.is (ap (λ (n : ℕ). n % 256 * 8) c.digits-in-13.ensures.0), omega arith)

pub returns-in-14 : goal.returns-in-14
unfolding taken_at slot_at
returns-in-14 c = (arm 14 c.args.o (split (drop c.args.at c.args.text.now)).0 c.in-14.is (ap (λ (n : ℕ). n % 2048 * 8) c.digits-in-14.ensures.0), omega arith)

pub returns-in-16 : goal.returns-in-16
unfolding taken_at slot_at
returns-in-16 c = (arm 16 c.args.o (split (drop c.args.at c.args.text.now)).0 c.in-16.is (c.digits-in-16.ensures.0 ∙ half_word _ (subst (λ (n : ℕ). n < 65536) c.digits-in-16.ensures.0 c.digits-in-16.ensures.1)), omega arith)

pub returns-in-17 : goal.returns-in-17
unfolding taken_at slot_at
returns-in-17 c = (arm 17 c.args.o (split (drop c.args.at c.args.text.now)).0 c.in-17.is (ap (λ (n : ℕ). n % 16 * 8) c.digits-in-17.ensures.0), omega arith)

pub returns-in-18 : goal.returns-in-18
unfolding taken_at slot_at
returns-in-18 c = (arm 18 c.args.o (split (drop c.args.at c.args.text.now)).0 c.in-18.is (ap (λ (n : ℕ). n % 16 * 524288) c.digits-in-18.ensures.0), omega arith)

pub returns-in_default : goal.returns-in_default
unfolding keys
returns-in_default c = (c.half_taken.ensures.0 ∙ last_arm (split (drop c.args.at c.args.text.now)).0 c.args.o c.in_default.in_default-own.rest, c.half_taken.ensures.1)
