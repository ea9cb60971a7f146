-- What an operation makes of one component: the byte, the sign flag, the zero flag, and whether it is told as clipped.
use Rattle.std.specs.Prelude.{ℕ, ◌+◌, ◌-◌, ◌*◌, min, Bool, true, false, cond, ◌&&◌, ◌||◌, ℤ, pos, negsuc, ◌+ℤ◌, ◌-ℤ◌, neg_ℤ, ◌==◌, bit_and, bit_or, bit_xor, int_le, int_lt, nat_le, nat_lt, unsigned_abs}
use Rattle.bits.specs.Bitop.{bit, bitop}
use Rattle.signed.specs.Signed.{widen, sext, low, clip, is_zero, shifted}
use Rattle.lane.specs.declared.Calc.{Calc}
use Rattle.lane.specs.declared.Calc.TheVariants.{Min, Max, Abs, Neg, Add, Sub}
use Rattle.lane.specs.declared.Logic.{Logic}
use Rattle.lane.specs.declared.Logic.TheVariants.{And, Xor, Or}

pub record Lane : Type 0 where
  pub byte : ℕ
  pub sign : Bool
  pub zero : Bool
  pub clipped : Bool

-- the clip range: signed results clip to -128..127, unsigned ones to 0..255
abbrev pub first : Bool → ℤ
first true = negsuc 0x7f
first false = pos 0

abbrev pub last : Bool → ℤ
last true = pos 0x7f
last false = pos 0xff

-- whether a true result lies outside it
unfoldable pub outside : Bool → ℤ → Bool
outside signed z = int_lt z (first signed) || int_lt (last signed) z

-- the sign flag of a signed result is the true result's sign, that of an unsigned one means that it clipped; the zero flag is from the
-- clipped result
unfoldable pub saturated : Bool → ℤ → Lane
saturated signed z =
    let v = clip (first signed) (last signed) z in
    record { byte = low 8 v; sign = cond signed (int_lt z (pos 0)) (outside signed z); zero = is_zero v; clipped = outside signed z }

-- the true result of vmin, vmax, vabs, vneg, vadd, vsub
unfoldable pub result : Calc → ℤ → ℤ → ℤ
result Min a b = cond (int_lt a b) a b
result Max a b = cond (int_lt a b) b a
result Abs a b = cond (int_lt a (pos 0)) (neg_ℤ a) a
result Neg a b = neg_ℤ a
result Add a b = a +ℤ b
result Sub a b = a -ℤ b

-- "For vadd, vsub, vneg, vabs and vadd9 each component's answer should also say whether the true result lay outside the clip range":
-- of those that a `Calc` names, all but vmin and vmax
abbrev pub tells : Calc → Bool
tells Min = false
tells Max = false
tells Abs = true
tells Neg = true
tells Add = true
tells Sub = true

-- a component's answer, told as clipped only if its instruction tells
abbrev pub told : Bool → Lane → Lane
told t l = record { byte = l.byte; sign = l.sign; zero = l.zero; clipped = t && l.clipped }

unfoldable pub arith_lane : Calc → Bool → ℕ → ℕ → Lane
arith_lane op signed x y = told (tells op) (saturated signed (result op (widen signed x) (widen signed y)))

-- vshr, vsar: the count is the low four bits of source 2, signed; the low eight bits are stored, the sign flag is their bit 7, and the
-- zero flag tests the result before it is cut
unfoldable pub shift_lane : Bool → ℕ → ℕ → Lane
shift_lane signed x y = let r = shifted (widen signed x) (sext y 3) in record { byte = low 8 r; sign = nat_le 0x80 (low 8 r); zero = is_zero r; clipped = false }

-- s between start and end; the sign flag is set where s is at or beyond either end, or already was set
unfoldable pub clip_between : Bool → ℤ → ℤ → ℤ → Lane
clip_between sf s start end =
    let res = cond (int_lt s start) start s in
    let out = cond (int_lt end res) end res in
    record { byte = low 8 out; sign = sf || (int_le s start || int_le end s); zero = is_zero out; clipped = false }

-- vclip: start and end are sources 2 and 3 in order; the sign flag is set, too, where source 2 >= source 3
unfoldable pub clip_lane : ℕ → ℕ → ℕ → Lane
clip_lane x y z =
    cond (int_lt (sext y 7) (sext z 7)) (clip_between false (sext x 7) (sext y 7) (sext z 7)) (clip_between true (sext x 7) (sext z 7) (sext y 7))

-- the sign flag is cleared, the zero flag set where the byte is 0
abbrev pub unsigned : ℕ → Lane
unsigned r = record { byte = r; sign = false; zero = (r == 0); clipped = false }

-- vminabs: min(|a|, |b|), at most 127
unfoldable pub min_abs_lane : ℕ → ℕ → Lane
min_abs_lane x y = unsigned (min 0x7f (min (unsigned_abs (sext x 7)) (unsigned_abs (sext y 7))))

-- vadd9: a byte and a nine-bit signed number, the sum saturated as an unsigned one
unfoldable pub add9_lane : ℕ → ℕ → Lane
add9_lane x w = saturated false (pos x +ℤ sext w 8)

-- vbitop
unfoldable pub bitop_lane : ℕ → ℕ → ℕ → Lane
bitop_lane op x y = unsigned (bitop 8 op x y)

-- vand, vxor, vor
unfoldable pub logic_of : Logic → ℕ → ℕ → ℕ
logic_of And x y = bit_and x y
logic_of Xor x y = bit_xor x y
logic_of Or x y = bit_or x y

unfoldable pub logic_lane : Logic → ℕ → ℕ → Lane
logic_lane op x y = unsigned (logic_of op x y)

-- mov
unfoldable pub mov_lane : ℕ → Lane
mov_lane x = unsigned x

-- vmov: the sign flag is bit 7 of the value
unfoldable pub mov_imm_lane : ℕ → Lane
mov_imm_lane x = record { byte = x; sign = nat_le 0x80 x; zero = (x == 0); clipped = false }

-- |x - y|: a difference of natural numbers stops at 0
abbrev pub apart : ℕ → ℕ → ℕ
apart x y = (x - y) + (y - x)

-- vcmpad, with d = |source 2 - source 1|: zero is d = other; sign is the bit operation of the input bit (first) and d < other (second)
unfoldable pub cmpad_lane : ℕ → ℕ → ℕ → ℕ → ℕ → Lane
cmpad_lane op input x other y =
    let d = apart y x in record { byte = d; sign = bit (input + 2 * cond (nat_lt d other) 1 0) op; zero = (d == other); clipped = false }
