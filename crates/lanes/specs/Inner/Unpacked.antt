-- A result whose flags are not packed yet: what it stands for once they are, and exactly which one each operation hands back. What an operation
-- does is said in lane's Lane.antt and in Lanes.antt, and proofs/Unpacking.antt shows that each result here stands for that.
use Rattle.std.specs.Prelude.{Bool, true, false, cond, List, ℕ, ◌-◌, ◌%◌, eqb, ltb, leb, get_or}
use Rattle.lane.specs.Lane.{Lane, arith_lane, shift_lane, clip_lane, min_abs_lane, add9_lane, bitop_lane, logic_lane, mov_lane, mov_imm_lane}
use Rattle.lane.specs.declared.Calc.{Calc}
use Rattle.lane.specs.declared.Logic.{Logic}
use Rattle.lanes.specs.Lanes.{Lanes, listed, flags, how_many, pair_at}
use Rattle.lanes.specs.declared.Unpacked.{Unpacked}

-- the bytes that are 0, and the bytes with bit 7 set
unfoldable pub zeros_of : List ℕ → ℕ
zeros_of l = flags 16 (λ i. eqb (get_or l i 0) 0)

unfoldable pub tops_of : List ℕ → ℕ
tops_of l = flags 16 (λ i. leb 0x80 (get_or l i 0))

-- how many are odd
unfoldable pub tally_of : List ℕ → ℕ
tally_of l = how_many 16 (λ i. eqb (get_or l i 0 % 2) 1)

-- what it stands for once packed
unfoldable pub packs : Unpacked → Lanes
packs m = record { bytes = m.bytes; signs = tops_of m.tops; zeros = zeros_of m.tested; clipped = m.clipped }

-- one component of such a result, and sixteen
pub record UnpackedLane : Type 0 where
  pub byte : ℕ
  pub tested : ℕ
  pub top : ℕ
  pub clipped : Bool

unfoldable pub unpacked_of : (ℕ → UnpackedLane) → Unpacked
unpacked_of f = record {
  bytes = listed 16 (λ i. (f i).byte);
  tested = listed 16 (λ i. (f i).tested);
  tops = listed 16 (λ i. (f i).top);
  clipped = how_many 16 (λ i. (f i).clipped);
}

-- the ways in which a component's flags are left: both in the byte; the sign flag in a byte of its own, 255 or 0; the zero flag, 0 or 1
abbrev pub both_in : Lane → UnpackedLane
both_in l = record { byte = l.byte; tested = l.byte; top = l.byte; clipped = l.clipped }

abbrev pub sign_beside : Lane → UnpackedLane
sign_beside l = record { byte = l.byte; tested = l.byte; top = cond l.sign 255 0; clipped = l.clipped }

abbrev pub zero_beside : Lane → UnpackedLane
zero_beside l = record { byte = l.byte; tested = cond l.zero 0 1; top = l.byte; clipped = l.clipped }

-- the operations, as in Lanes.antt
unfoldable pub arith_unpacked : Calc → Bool → List ℕ → List ℕ → Unpacked
arith_unpacked op true a b = unpacked_of (λ i. both_in (arith_lane op true (get_or a i 0) (get_or b i 0)))
arith_unpacked op false a b = unpacked_of (λ i. sign_beside (arith_lane op false (get_or a i 0) (get_or b i 0)))

unfoldable pub shift_unpacked : Bool → List ℕ → List ℕ → Unpacked
shift_unpacked signed a b = unpacked_of (λ i. zero_beside (shift_lane signed (get_or a i 0) (get_or b i 0)))

unfoldable pub clip_unpacked : List ℕ → List ℕ → List ℕ → Unpacked
clip_unpacked a b c = unpacked_of (λ i. sign_beside (clip_lane (get_or a i 0) (get_or b i 0) (get_or c i 0)))

unfoldable pub min_abs_unpacked : List ℕ → List ℕ → Unpacked
min_abs_unpacked a b = unpacked_of (λ i. sign_beside (min_abs_lane (get_or a i 0) (get_or b i 0)))

unfoldable pub add9_unpacked : List ℕ → List ℕ → List ℕ → Unpacked
add9_unpacked a b c = unpacked_of (λ i. sign_beside (add9_lane (get_or a i 0) (cond (ltb i 8) (pair_at b i) (pair_at c (i - 8)))))

unfoldable pub bitop_unpacked : ℕ → List ℕ → List ℕ → Unpacked
bitop_unpacked op a b = unpacked_of (λ i. sign_beside (bitop_lane op (get_or a i 0) (get_or b i 0)))

unfoldable pub logic_unpacked : Logic → List ℕ → ℕ → Unpacked
logic_unpacked op a byte = unpacked_of (λ i. sign_beside (logic_lane op (get_or a i 0) byte))

unfoldable pub mov_unpacked : List ℕ → Unpacked
mov_unpacked a = unpacked_of (λ i. sign_beside (mov_lane (get_or a i 0)))

unfoldable pub mov_imm_unpacked : ℕ → Unpacked
mov_imm_unpacked byte = unpacked_of (λ i. both_in (mov_imm_lane byte))
