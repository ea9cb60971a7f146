-- A vector operation from its components.
use Rattle.std.specs.Prelude.{Bool, cond, List, [], ◌∷◌, ◌++◌, ℕ, zero, suc, ◌+◌, ◌*◌, ◌-◌, ◌/◌, ◌%◌, ◌^◌, eqb, ltb, get_or}
use Rattle.lane.specs.declared.Calc.{Calc}
use Rattle.lane.specs.declared.Logic.{Logic}
use Rattle.lane.specs.Lane.{Lane, arith_lane, shift_lane, clip_lane, min_abs_lane, add9_lane, bitop_lane, logic_lane, mov_lane, mov_imm_lane, cmpad_lane}
use Rattle.lanes.specs.declared.Flags.{Flags}

-- f 0, f 1, .. , f (n - 1)
unfoldable pub listed : ℕ → (ℕ → ℕ) → List ℕ
listed zero f = []
listed (suc n) f = listed n f ++ (f n ∷ [])

-- the number whose bit i is f i, for i below n
unfoldable pub flags : ℕ → (ℕ → Bool) → ℕ
flags zero f = 0
flags (suc n) f = cond (f n) (2 ^ n) 0 + flags n f

-- for how many i below n f i holds
unfoldable pub how_many : ℕ → (ℕ → Bool) → ℕ
how_many zero f = 0
how_many (suc n) f = cond (f n) 1 0 + how_many n f

-- what an operation makes of all sixteen components: bit i of signs and of zeros is component i's flag; how many are told as clipped
pub record Lanes : Type 0 where
  pub bytes : List ℕ
  pub signs : ℕ
  pub zeros : ℕ
  pub clipped : ℕ

unfoldable pub lanes_of : (ℕ → Lane) → Lanes
lanes_of f = record {
  bytes = listed 16 (λ i. (f i).byte);
  signs = flags 16 (λ i. (f i).sign);
  zeros = flags 16 (λ i. (f i).zero);
  clipped = how_many 16 (λ i. (f i).clipped);
}

unfoldable pub arith_lanes : Calc → Bool → List ℕ → List ℕ → Lanes
arith_lanes op signed a b = lanes_of (λ i. arith_lane op signed (get_or a i 0) (get_or b i 0))

unfoldable pub shift_lanes : Bool → List ℕ → List ℕ → Lanes
shift_lanes signed a b = lanes_of (λ i. shift_lane signed (get_or a i 0) (get_or b i 0))

unfoldable pub clip_lanes : List ℕ → List ℕ → List ℕ → Lanes
clip_lanes a b c = lanes_of (λ i. clip_lane (get_or a i 0) (get_or b i 0) (get_or c i 0))

unfoldable pub min_abs_lanes : List ℕ → List ℕ → Lanes
min_abs_lanes a b = lanes_of (λ i. min_abs_lane (get_or a i 0) (get_or b i 0))

-- two bytes, the low one first
abbrev pub pair_at : List ℕ → ℕ → ℕ
pair_at l k = get_or l (2 * k) 0 + get_or l (2 * k + 1) 0 * 256

-- source 2 feeds components 0-7, source 3 feeds 8-15
unfoldable pub add9_lanes : List ℕ → List ℕ → List ℕ → Lanes
add9_lanes a b c = lanes_of (λ i. add9_lane (get_or a i 0) (cond (ltb i 8) (pair_at b i) (pair_at c (i - 8))))

unfoldable pub bitop_lanes : ℕ → List ℕ → List ℕ → Lanes
bitop_lanes op a b = lanes_of (λ i. bitop_lane op (get_or a i 0) (get_or b i 0))

unfoldable pub logic_lanes : Logic → List ℕ → ℕ → Lanes
logic_lanes op a byte = lanes_of (λ i. logic_lane op (get_or a i 0) byte)

unfoldable pub mov_lanes : List ℕ → Lanes
mov_lanes a = lanes_of (λ i. mov_lane (get_or a i 0))

unfoldable pub mov_imm_lanes : ℕ → Lanes
mov_imm_lanes byte = lanes_of (λ i. mov_imm_lane byte)

-- bit i of the input goes with component i; a is source 1, other its pair's second register, b source 2
unfoldable pub cmpad_flags : ℕ → ℕ → List ℕ → List ℕ → List ℕ → Flags
cmpad_flags op input a other b =
    let f : ℕ → Lane = λ i. cmpad_lane op (input / 2 ^ i % 2) (get_or a i 0) (get_or other i 0) (get_or b i 0) in
    record { signs = flags 16 (λ i. (f i).sign); zeros = flags 16 (λ i. (f i).zero) }

-- vswz; lo: bits 0-3 are the component selector, bit 4 is the source selector; hi: bits 4-7 and bit 0
abbrev pub component : Bool → ℕ → ℕ
component hi s = cond hi (s / 16 % 16) (s % 16)

abbrev pub source : Bool → ℕ → ℕ
source hi s = cond hi (s % 2) (s / 16 % 2)

unfoldable pub swizzled : Bool → List ℕ → List ℕ → List ℕ → List ℕ
swizzled hi a b sel =
    listed 16 (λ i. let s = get_or sel i 0 in cond (eqb (source hi s) 0) (get_or a (component hi s) 0) (get_or b (component hi s) 0))

-- the four bytes of a $vc word: its signs, its zeros, each low byte first
abbrev pub word_bytes : ℕ → List ℕ
word_bytes w = w % 256 ∷ w / 256 % 256 ∷ w / 65536 % 256 ∷ w / 16777216 % 256 ∷ []

-- mov from $vc: bytes 0-3 are $vc0's, 4-7 $vc1's, and so on
unfoldable pub flag_bytes : List ℕ → List ℕ
flag_bytes vc = word_bytes (get_or vc 0 0) ++ (word_bytes (get_or vc 1 0) ++ (word_bytes (get_or vc 2 0) ++ word_bytes (get_or vc 3 0)))
