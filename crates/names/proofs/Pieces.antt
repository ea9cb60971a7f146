-- The packed text of an operand, by its parts.
use mathlib.Core.Path.{◌≡◌, refl}
use mathlib.Core.Bool.{cond}
use native.Mathlib.Omega.{arith}
use native.Mathlib.Decide.{dec_lt}
use lib.Dec.{ltb}
use Prim.Native.Nat.{ℕ, ◌-◌, ◌/◌, ◌%◌, ◌<◌, ◌≤◌}
use native.Mathlib.Nat.{div-one}
use borrow.Author.Tests.{lt-ltb, le-ltb, ne_eqb}
use Rattle.names.specs.Line.{numeral, value_of}
use Rattle.names.specs.Table.{c, vc, imm, imm16, half}
use Rattle.names.specs.Inner.Code.{packed, piece_of, piece_at}

module _ (w : ℕ) where
  c_shown : w % 8 < 4 → packed 0x01202463 (numeral 4 10 (w % 8)) ≡ packed 1 (piece_of c w)
  unfolding packed piece_of value_of
  c_shown h = rw (div-one w, lt-ltb (w % 8) 4 h, lt-ltb (w % 8) 4 h) refl

  c_hidden : 4 ≤ w % 8 → 1 ≡ packed 1 (piece_of c w)
  unfolding packed piece_of value_of
  c_hidden h = rw (div-one w, le-ltb (w % 8) 4 h) refl

  vc_shown : w % 8 < 4 → packed 0x0120247663 (numeral 4 10 (w % 8)) ≡ packed 1 (piece_of vc w)
  unfolding packed piece_of value_of
  vc_shown h = rw (div-one w, lt-ltb (w % 8) 4 h, lt-ltb (w % 8) 4 h) refl

  vc_hidden : 4 ≤ w % 8 → 1 ≡ packed 1 (piece_of vc w)
  unfolding packed piece_of value_of
  vc_hidden h = rw (div-one w, le-ltb (w % 8) 4 h) refl

  pub c_piece : cond (ltb (w % 8) 4) (packed 0x01202463 (numeral 4 10 (w % 8))) 1 ≡ packed 1 (piece_of c w)
  c_piece = elim (dec_lt (w % 8) 4) [ yes h ↦ rw (lt-ltb (w % 8) 4 h) (c_shown h) | no h ↦ let l : 4 ≤ w % 8 = omega arith in rw (le-ltb (w % 8) 4 l) (c_hidden l) ]

  pub vc_piece : cond (ltb (w % 8) 4) (packed 0x0120247663 (numeral 4 10 (w % 8))) 1 ≡ packed 1 (piece_of vc w)
  vc_piece = elim (dec_lt (w % 8) 4) [ yes h ↦ rw (lt-ltb (w % 8) 4 h) (vc_shown h) | no h ↦ let l : 4 ≤ w % 8 = omega arith in rw (le-ltb (w % 8) 4 l) (vc_hidden l) ]

  pub imm_up : w / 8 % 2048 < 1024 → packed 0x01203078 (numeral 4 16 (w / 8 % 2048)) ≡ packed 1 (piece_of imm w)
  unfolding packed piece_of value_of
  imm_up h = rw (lt-ltb (w / 8 % 2048) 1024 h) refl

  pub imm_down : 1024 ≤ w / 8 % 2048 → packed 0x01202d3078 (numeral 4 16 (2048 - w / 8 % 2048)) ≡ packed 1 (piece_of imm w)
  unfolding packed piece_of value_of
  imm_down h = rw (le-ltb (w / 8 % 2048) 1024 h) refl

  pub half_low : w / 8 % 2 ≡ 0 → 0x01206c6f ≡ packed 1 (piece_of half w)
  unfolding packed piece_of value_of
  half_low h = rw h refl

  pub half_high : (w / 8 % 2 ≡ 0 → ⊥) → 0x01206869 ≡ packed 1 (piece_of half w)
  unfolding packed piece_of value_of
  half_high h = rw (ne_eqb (w / 8 % 2) 0 h) refl

  pub imm16_piece : packed 0x01203078 (numeral 4 16 (w % 65536)) ≡ packed 1 (piece_of imm16 w)
  unfolding packed piece_of value_of
  imm16_piece = rw (div-one w) refl

  pub arm : {r : ℕ} (k o : ℕ) → o ≡ k → r ≡ packed 1 (piece_at k w) → r ≡ packed 1 (piece_at o w)
  arm k o e h = rw e h
