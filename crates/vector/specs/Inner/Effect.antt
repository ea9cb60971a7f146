-- What a vector instruction makes of the two pieces that it changes, in one formula each, and what it counts. proofs/Closed.antt shows that the model says the same.
use Rattle.std.specs.Prelude.{cond, [], ◌∷◌, get_or}
use Rattle.std.specs.Int.Bits.{bit_or}
use Rattle.lane.specs.Lane.{tells}
use Rattle.lanes.specs.Lanes.{arith_lanes, shift_lanes, clip_lanes, add9_lanes, min_abs_lanes, bitop_lanes, logic_lanes, cmpad_flags, swizzled, mov_lanes, mov_imm_lanes, flag_bytes}
use Rattle.lanes.specs.declared.Flags.{Flags}
use Rattle.pieces.specs.Inner.Regs.{vreg_of, with_vreg, flags_at}
use Rattle.ports.specs.Inner.Ports.{Vectors, vectors, second_of, input_of, lanes_at, Result, result_from}
use Rattle.terms.specs.declared.Counted.{Counted}
use Rattle.terms.specs.declared.Counted.TheVariants.{Nothing, Clipped}
use Rattle.words.specs.Vector.{Vector}
use Rattle.words.specs.Vector.{Arith, Shift, Clip, Add9, MinAbs, Bitop, Logic, Cmpad, Swz, Mov, MovImm, MovFlags}

unfoldable pub vectored : Vector → Vectors → Vectors
vectored (Arith o) s = lanes_at o.dst o.vcdst (arith_lanes o.calc o.signed (vreg_of s.v o.src1) (second_of o.second s.v)) s
vectored (Shift o) s = lanes_at o.dst o.vcdst (shift_lanes o.signed (vreg_of s.v o.src1) (second_of o.second s.v)) s
vectored (Clip o) s = lanes_at o.dst o.vcdst (clip_lanes (vreg_of s.v o.src1) (vreg_of s.v o.src2) (vreg_of s.v o.src3)) s
vectored (Add9 o) s = lanes_at o.dst o.vcdst (add9_lanes (vreg_of s.v o.src1) (vreg_of s.v o.src2) (vreg_of s.v o.src3)) s
vectored (MinAbs o) s = lanes_at o.dst o.vcdst (min_abs_lanes (vreg_of s.v o.src1) (vreg_of s.v o.src2)) s
vectored (Bitop o) s = lanes_at o.dst o.flags (bitop_lanes o.op (vreg_of s.v o.src1) (vreg_of s.v o.src2)) s
vectored (Logic o) s = lanes_at o.dst o.vcdst (logic_lanes o.logic (vreg_of s.v o.src1) o.byte) s
vectored (Cmpad o) s =
    let f : Flags = cmpad_flags o.op (input_of o.vcdst o.input s.vc) (vreg_of s.v o.src1) (vreg_of s.v (bit_or o.src1 1)) (vreg_of s.v o.src2) in
    vectors (flags_at o.vcdst f.signs f.zeros s.vc) s.v
vectored (Swz o) s = vectors s.vc (with_vreg s.v o.dst (swizzled o.hi (vreg_of s.v o.src1) (vreg_of s.v o.src2) (vreg_of s.v o.src3)))
vectored (Mov o) s = lanes_at o.dst o.vcdst (mov_lanes (vreg_of s.v o.src1)) s
vectored (MovImm o) s = lanes_at o.dst o.vcdst (mov_imm_lanes o.byte) s
vectored (MovFlags dst) s =
    vectors s.vc (with_vreg s.v dst (flag_bytes (get_or s.vc 0 0 ∷ get_or s.vc 1 0 ∷ get_or s.vc 2 0 ∷ get_or s.vc 3 0 ∷ [])))

-- what an instruction counts: the components that are told as clipped, of those that tell
unfoldable pub counted_of : Vector → Vectors → Counted
counted_of (Arith o) s =
    cond (tells o.calc) (Clipped (arith_lanes o.calc o.signed (vreg_of s.v o.src1) (second_of o.second s.v)).clipped) Nothing
counted_of (Add9 o) s = Clipped (add9_lanes (vreg_of s.v o.src1) (vreg_of s.v o.src2) (vreg_of s.v o.src3)).clipped
counted_of (Shift o) s = Nothing
counted_of (Clip o) s = Nothing
counted_of (MinAbs o) s = Nothing
counted_of (Bitop o) s = Nothing
counted_of (Logic o) s = Nothing
counted_of (Cmpad o) s = Nothing
counted_of (Swz o) s = Nothing
counted_of (Mov o) s = Nothing
counted_of (MovImm o) s = Nothing
counted_of (MovFlags dst) s = Nothing

-- what it comes to: what it counts, and the two pieces afterwards
unfoldable pub result_of : Vector → Vectors → Result
result_of i s = result_from (counted_of i s) (vectored i s)
