-- What each vector instruction does with its registers. What it does with each component is in the crate lane, specs/Lane.antt.
-- Document 01, "Vector instructions".
use Rattle.std.specs.Prelude.{ℕ, ◌+◌, ◌*◌, ◌%◌, List, [], ◌∷◌, replicate}
use Rattle.std.specs.Int.Bits.{bit_or}
use Rattle.lanes.specs.Lanes.{arith_lanes, shift_lanes, clip_lanes, add9_lanes, min_abs_lanes, bitop_lanes, logic_lanes, cmpad_flags, swizzled, mov_lanes, mov_imm_lanes, flag_bytes}
use Rattle.lanes.specs.Lanes.{Lanes}
use Rattle.lanes.specs.declared.Flags.{Flags}
use Rattle.words.specs.Second.{Second}
use Rattle.words.specs.Second.{Register, Byte, Absent}
use Rattle.words.specs.Input.{Input}
use Rattle.words.specs.Input.{Mask, Signs}
use Rattle.words.specs.Vector.{Vector}
use Rattle.words.specs.Vector.{Arith, Shift, Clip, Add9, MinAbs, Bitop, Logic, Cmpad, Swz, Mov, MovImm, MovFlags}
use Rattle.pieces.specs.Place.{vec, signs, zeros}
use Rattle.model.specs.Prog.{Prog, ret, ◌>>=◌, read, Write, ◌≔◌, below4, idle, Did, only}

-- $vc[VCDST].sf and .zf
abbrev pub flags_to : ℕ → ℕ → ℕ → List Write
flags_to vcdst sf zf = below4 vcdst ((signs vcdst ≔ sf) ∷ (zeros vcdst ≔ zf) ∷ [])

-- $v[DST], and the flags of its components; those that are told as clipped are counted, whether flags are written or not
abbrev pub lanes_to : ℕ → ℕ → Lanes → Did
lanes_to dst vcdst l = record { writes = (vec dst ≔ l.bytes) ∷ flags_to vcdst l.signs l.zeros; access = idle; clipped = l.clipped }

-- source 2: a register, or BIMM in each component; where there is none, zeros stand in its place, and vabs and vneg look at none of them
abbrev pub second : Second → Prog (List ℕ)
second (Register n) = read (vec n)
second (Byte b) = ret (replicate 16 b)
second Absent = ret (replicate 16 0)

-- vcin: the side mask if valid, else the sign flags of $vc[VCDST mod 4] before the step
abbrev pub input : ℕ → Input → Prog ℕ
input vcdst (Mask m) = ret m
input vcdst Signs = read (signs (vcdst % 4))

-- $vc[n] whole
abbrev pub vc_word : ℕ → Prog ℕ
vc_word n = do
  s ← read (signs n)
  z ← read (zeros n)
  ret (z * 65536 + s)

abbrev pub vector : Vector → Prog Did
-- vmin, vmax, vabs, vneg, vadd, vsub
vector (Arith o) = do
  xs ← read (vec o.src1)
  ys ← second o.second
  ret (lanes_to o.dst o.vcdst (arith_lanes o.calc o.signed xs ys))
-- vshr, vsar
vector (Shift o) = do
  xs ← read (vec o.src1)
  ys ← second o.second
  ret (lanes_to o.dst o.vcdst (shift_lanes o.signed xs ys))
-- vclip
vector (Clip o) = do
  xs ← read (vec o.src1)
  ys ← read (vec o.src2)
  zs ← read (vec o.src3)
  ret (lanes_to o.dst o.vcdst (clip_lanes xs ys zs))
-- vadd9
vector (Add9 o) = do
  xs ← read (vec o.src1)
  ys ← read (vec o.src2)
  zs ← read (vec o.src3)
  ret (lanes_to o.dst o.vcdst (add9_lanes xs ys zs))
-- vminabs
vector (MinAbs o) = do
  xs ← read (vec o.src1)
  ys ← read (vec o.src2)
  ret (lanes_to o.dst o.vcdst (min_abs_lanes xs ys))
-- vbitop
vector (Bitop o) = do
  xs ← read (vec o.src1)
  ys ← read (vec o.src2)
  ret (lanes_to o.dst o.flags (bitop_lanes o.op xs ys))
-- vand, vxor, vor
vector (Logic o) = do
  xs ← read (vec o.src1)
  ret (lanes_to o.dst o.vcdst (logic_lanes o.logic xs o.byte))
-- vcmpad: source 1 is a register pair, the second of which is SRC1 OR 1
vector (Cmpad o) = do
  xs ← read (vec o.src1)
  os ← read (vec (bit_or o.src1 1))
  ys ← read (vec o.src2)
  m ← input o.vcdst o.input
  let f : Flags = cmpad_flags o.op m xs os ys in ret (only (flags_to o.vcdst f.signs f.zeros))
-- vswz writes no flags
vector (Swz o) = do
  xs ← read (vec o.src1)
  ys ← read (vec o.src2)
  zs ← read (vec o.src3)
  ret (only ((vec o.dst ≔ swizzled o.hi xs ys zs) ∷ []))
-- mov
vector (Mov o) = do
  xs ← read (vec o.src1)
  ret (lanes_to o.dst o.vcdst (mov_lanes xs))
-- vmov
vector (MovImm o) = ret (lanes_to o.dst o.vcdst (mov_imm_lanes o.byte))
-- mov from $vc writes no flags
vector (MovFlags dst) = do
  w0 ← vc_word 0
  w1 ← vc_word 1
  w2 ← vc_word 2
  w3 ← vc_word 3
  ret (only ((vec dst ≔ flag_bytes (w0 ∷ w1 ∷ w2 ∷ w3 ∷ [])) ∷ []))
