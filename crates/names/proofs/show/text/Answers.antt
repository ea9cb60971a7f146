-- `names::show::text` meets its contract: each arm gives the packed text of its operand.
use mathlib.Core.Path.{◌≡◌, refl, ◌∙◌}
use mathlib.Core.List.{List, [], ◌∷◌}
use Prim.Native.Nat.{ℕ, ◌≤◌}
use native.Mathlib.Omega.{arith}
use native.Mathlib.Decide.{dec_lt}
use borrow.Author.Tests.{ne_eqb}
use lib.ListN.{get_or-eq_default}
use Rattle.names.specs.Line.{value_of}
use Rattle.names.specs.Table.{half}
use Rattle.names.specs.Inner.Code.{packed, piece_of, piece_at, slots, slot_at}
use Rattle.names.proofs.Tests.{below}
use Rattle.words.proofs.Law.{Rest, keyed, unkeyed}
use Rattle.names.proofs.Pieces.{arm, c_piece, vc_piece, imm16_piece}
use Rattle.names.proofs.show.text.Goals as goal

-- the arms' numbers, the last arm's first
keys : List (List ℕ)
keys = (18 ∷ []) ∷ (17 ∷ []) ∷ (16 ∷ []) ∷ (15 ∷ []) ∷ (14 ∷ []) ∷ (13 ∷ []) ∷ (12 ∷ []) ∷ (11 ∷ []) ∷ (10 ∷ []) ∷ (9 ∷ []) ∷ (8 ∷ []) ∷ (7 ∷ []) ∷ (6 ∷ []) ∷ (5 ∷ []) ∷ (4 ∷ []) ∷ (3 ∷ []) ∷ (2 ∷ []) ∷ (1 ∷ []) ∷ (0 ∷ []) ∷ []

far : (o : ℕ) → Rest o keys → 19 ≤ o
unfolding keys
far o r = elim (dec_lt o 19) [ yes h ↦ absurd (unkeyed o keys r (below (λ n. keyed n keys) 19 tt o h)) | no h ↦ omega arith ]

last_slot : (w o : ℕ) → 19 ≤ o → packed 1 (piece_of half w) ≡ packed 1 (piece_at o w)
unfolding piece_at slot_at
last_slot w o h = rw (ne_eqb o 0 (λ e. omega arith), get_or-eq_default slots half h) refl

last_arm : (w o : ℕ) → Rest o keys → packed 1 (piece_of half w) ≡ packed 1 (piece_at o w)
last_arm w o r = last_slot w o (far o r)

pub returns-in-0 : goal.returns-in-0
unfolding packed piece_at slot_at piece_of value_of
returns-in-0 c = arm c.args.w 0 c.args.o c.in-0.is refl

pub returns-in-1 : goal.returns-in-1
unfolding packed piece_at slot_at piece_of value_of
returns-in-1 c = arm c.args.w 1 c.args.o c.in-1.is c.decimal.ensures

pub returns-in-2 : goal.returns-in-2
unfolding packed piece_at slot_at piece_of value_of
returns-in-2 c = arm c.args.w 2 c.args.o c.in-2.is c.decimal-in-2.ensures

pub returns-in-3 : goal.returns-in-3
unfolding packed piece_at slot_at piece_of value_of
returns-in-3 c = arm c.args.w 3 c.args.o c.in-3.is c.decimal-in-3.ensures

pub returns-in-4 : goal.returns-in-4
unfolding packed piece_at slot_at piece_of value_of
returns-in-4 c = arm c.args.w 4 c.args.o c.in-4.is c.decimal-in-4.ensures

pub returns-in-5 : goal.returns-in-5
unfolding packed piece_at slot_at piece_of value_of
returns-in-5 c = arm c.args.w 5 c.args.o c.in-5.is c.decimal-in-5.ensures

pub returns-in-6 : goal.returns-in-6
unfolding packed piece_at slot_at piece_of value_of
returns-in-6 c = arm c.args.w 6 c.args.o c.in-6.is c.decimal-in-6.ensures

pub returns-in-7 : goal.returns-in-7
unfolding packed piece_at slot_at piece_of value_of
returns-in-7 c = arm c.args.w 7 c.args.o c.in-7.is c.decimal-in-7.ensures

pub returns-in-8 : goal.returns-in-8
unfolding packed piece_at slot_at piece_of value_of
returns-in-8 c = arm c.args.w 8 c.args.o c.in-8.is c.decimal-in-8.ensures

pub returns-in-9 : goal.returns-in-9
unfolding packed piece_at slot_at piece_of value_of
returns-in-9 c = arm c.args.w 9 c.args.o c.in-9.is c.decimal-in-9.ensures

pub returns-in-10 : goal.returns-in-10
unfolding packed piece_at slot_at piece_of value_of
returns-in-10 c = arm c.args.w 10 c.args.o c.in-10.is (c.flags.ensures ∙ c_piece c.args.w)

pub returns-in-11 : goal.returns-in-11
unfolding packed piece_at slot_at piece_of value_of
returns-in-11 c = arm c.args.w 11 c.args.o c.in-11.is (c.flags-in-11.ensures ∙ vc_piece c.args.w)

pub returns-in-12 : goal.returns-in-12
unfolding packed piece_at slot_at piece_of value_of
returns-in-12 c = arm c.args.w 12 c.args.o c.in-12.is refl

pub returns-in-13 : goal.returns-in-13
unfolding packed piece_at slot_at piece_of value_of
returns-in-13 c = arm c.args.w 13 c.args.o c.in-13.is c.hex.ensures

pub returns-in-14 : goal.returns-in-14
unfolding packed piece_at slot_at piece_of value_of
returns-in-14 c = arm c.args.w 14 c.args.o c.in-14.is c.hex-in-14.ensures

pub returns-in-15 : goal.returns-in-15
unfolding packed piece_at slot_at piece_of value_of
returns-in-15 c = arm c.args.w 15 c.args.o c.in-15.is c.signed.ensures

pub returns-in-16 : goal.returns-in-16
unfolding packed piece_at slot_at piece_of value_of
returns-in-16 c = arm c.args.w 16 c.args.o c.in-16.is (c.hex-in-16.ensures ∙ imm16_piece c.args.w)

pub returns-in-17 : goal.returns-in-17
unfolding packed piece_at slot_at piece_of value_of
returns-in-17 c = arm c.args.w 17 c.args.o c.in-17.is c.hex-in-17.ensures

pub returns-in-18 : goal.returns-in-18
unfolding packed piece_at slot_at piece_of value_of
returns-in-18 c = arm c.args.w 18 c.args.o c.in-18.is c.hex-in-18.ensures

pub returns-in_default : goal.returns-in_default
unfolding keys
returns-in_default c = c.low_high.ensures ∙ last_arm c.args.w c.args.o c.in_default.in_default-own.rest
