-- What each opcode is: a row for each opcode from 0x80 to 0xdf, eight to a line. Document 01's numbers 1 to 4 come from here.
use Rattle.std.specs.Prelude.{ℕ, ◌-◌, Bool, true, false, cond, List, [], ◌∷◌, ltb, get_or}
use Rattle.terms.specs.declared.Way.{Way}
use Rattle.terms.specs.declared.Way.TheVariants.{Horizontal, Vertical, Scalar}
use Rattle.lane.specs.declared.Calc.{Calc}
use Rattle.lane.specs.declared.Calc.TheVariants.{Min, Max, Abs, Neg, Add, Sub}
use Rattle.lane.specs.declared.Logic.{Logic}
use Rattle.lane.specs.declared.Logic.TheVariants.{And, Xor, Or}
use Rattle.words.specs.Fields.{fields_of, second_of, input_of}
use Rattle.words.specs.declared.Fields.{Fields}
use Rattle.terms.specs.declared.Half.{Half}
use Rattle.terms.specs.declared.Half.TheVariants.{Low, High}
use Rattle.words.specs.declared.Increment.{Increment}
use Rattle.words.specs.declared.Increment.TheVariants as I
use Rattle.words.specs.Second.{Second}
use Rattle.words.specs.Second as S
use Rattle.terms.specs.declared.Refusal.TheVariants.{Foreign, Undocumented, SideIndex, SideMask}
use Rattle.words.specs.Address.{Address}
use Rattle.words.specs.Address as A
use Rattle.words.specs.Vector.{Vector}
use Rattle.words.specs.Vector as W
use Rattle.words.specs.Insn as N
use Rattle.words.specs.Decoded.{Decoded}
use Rattle.words.specs.Decoded as D

-- an opcode from 0x80 to 0xdf that is not documented
abbrev pub none : Decoded
none = D.Refused Undocumented

abbrev pub nop : Decoded
nop = D.Insn N.Nop

abbrev pub address : Address → Decoded
address i = D.Insn (N.Address i)

abbrev pub vector : Vector → Decoded
vector i = D.Insn (N.Vector i)

-- an instruction that uses SRC2S is refused where the side index is above 31
abbrev pub sided_of : ℕ → Address → Decoded
sided_of side i = cond (ltb side 32) (address i) (D.Refused SideIndex)

-- vcmpad is refused where the side mask word is above 0x1ffff
abbrev pub masked_of : ℕ → Vector → Decoded
masked_of mask i = cond (ltb mask 131072) (vector i) (D.Refused SideMask)

-- ---- the address unit. In stores $a is chosen by DST and the data register by SRC1

abbrev pub set_of : Fields → Half → Address
set_of f half = A.Set (record { half = half; dst = f.dst; imm = f.half })

abbrev pub add_of : Fields → ℕ → Address
add_of f side = A.Add (record { dst = f.dst; src1 = f.src1; src2 = side; cdst = f.flags })

abbrev pub aadd_of : Fields → ℕ → Address
aadd_of f side = A.Aadd (record { dst = f.dst; src2 = side; cdst = f.flags })

abbrev pub bitop_of : Fields → Address
bitop_of f = A.Bitop (record { op = f.bitop; dst = f.dst; src1 = f.src1; src2 = f.src2; flags = f.flags })

abbrev pub ld_of : Fields → Way → Address
ld_of f way = A.Ld (record { way = way; reg = f.dst; base = f.src1; uimm = f.uimm; cdst = f.flags })

abbrev pub st_of : Fields → Way → Address
st_of f way = A.St (record { way = way; reg = f.src1; base = f.dst; uimm = f.uimm; cdst = f.flags })

abbrev pub lda_of : Fields → Way → Increment → Address
lda_of f way inc = A.Lda (record { way = way; reg = f.dst; base = f.src1; inc = inc; cdst = f.flags })

abbrev pub sta_of : Fields → Way → Increment → Address
sta_of f way inc = A.Sta (record { way = way; reg = f.src1; base = f.dst; inc = inc; cdst = f.flags })

abbrev pub set_row : Fields → Half → Decoded
set_row f half = address (set_of f half)

abbrev pub add_row : Fields → ℕ → Decoded
add_row f side = sided_of side (add_of f side)

abbrev pub aadd_row : Fields → ℕ → Decoded
aadd_row f side = sided_of side (aadd_of f side)

abbrev pub bitop_row : Fields → Decoded
bitop_row f = address (bitop_of f)

abbrev pub ld_row : Fields → Way → Decoded
ld_row f way = address (ld_of f way)

abbrev pub st_row : Fields → Way → Decoded
st_row f way = address (st_of f way)

abbrev pub lda_row : Fields → Way → ℕ → Decoded
lda_row f way side = sided_of side (lda_of f way (I.Register side))

abbrev pub sta_row : Fields → Way → ℕ → Decoded
sta_row f way side = sided_of side (sta_of f way (I.Register side))

abbrev pub lda_imm_row : Fields → Way → Decoded
lda_imm_row f way = address (lda_of f way (I.Immediate f.imm))

abbrev pub sta_imm_row : Fields → Way → Decoded
sta_imm_row f way = address (sta_of f way (I.Immediate f.imm))

-- ---- the vector unit

abbrev pub arith_of : Fields → Calc → Bool → Second → Vector
arith_of f calc signed second = W.Arith (record { calc = calc; signed = signed; dst = f.dst; src1 = f.src1; second = second; vcdst = f.flags })

abbrev pub shift_of : Fields → Bool → Second → Vector
shift_of f signed second = W.Shift (record { signed = signed; dst = f.dst; src1 = f.src1; second = second; vcdst = f.flags })

abbrev pub clip_of : Fields → Vector
clip_of f = W.Clip (record { dst = f.dst; src1 = f.src1; src2 = f.src2; src3 = f.src3; vcdst = f.flags })

abbrev pub add9_of : Fields → Vector
add9_of f = W.Add9 (record { dst = f.dst; src1 = f.src1; src2 = f.src2; src3 = f.src3; vcdst = f.flags })

abbrev pub min_abs_of : Fields → Vector
min_abs_of f = W.MinAbs (record { dst = f.dst; src1 = f.src1; src2 = f.src2; vcdst = f.flags })

abbrev pub vbitop_of : Fields → Vector
vbitop_of f = W.Bitop (record { op = f.bitop; dst = f.dst; src1 = f.src1; src2 = f.src2; flags = f.flags })

abbrev pub logic_of : Fields → Logic → Vector
logic_of f logic = W.Logic (record { logic = logic; dst = f.dst; src1 = f.src1; byte = f.byte; vcdst = f.flags })

abbrev pub cmpad_of : Fields → ℕ → Vector
cmpad_of f mask = W.Cmpad (record { op = f.cmpop; src1 = f.src1; src2 = f.src2; input = input_of mask; vcdst = f.flags })

abbrev pub swz_of : Fields → Vector
swz_of f = W.Swz (record { hi = f.hi; dst = f.dst; src1 = f.src1; src2 = f.src2; src3 = f.src3 })

abbrev pub mov_of : Fields → Vector
mov_of f = W.Mov (record { dst = f.dst; src1 = f.src1; vcdst = f.flags })

abbrev pub mov_imm_of : Fields → Vector
mov_imm_of f = W.MovImm (record { dst = f.dst; byte = f.byte; vcdst = f.flags })

abbrev pub mov_flags_of : Fields → Vector
mov_flags_of f = W.MovFlags f.dst

abbrev pub arith_row : Fields → Calc → Bool → Bool → Decoded
arith_row f calc signed byte = vector (arith_of f calc signed (second_of f byte))

-- vabs and vneg have no source 2
abbrev pub unary_row : Fields → Calc → Bool → Decoded
unary_row f calc signed = vector (arith_of f calc signed S.Absent)

abbrev pub shift_row : Fields → Bool → Bool → Decoded
shift_row f signed byte = vector (shift_of f signed (second_of f byte))

abbrev pub clip_row : Fields → Decoded
clip_row f = vector (clip_of f)

abbrev pub add9_row : Fields → Decoded
add9_row f = vector (add9_of f)

abbrev pub min_abs_row : Fields → Decoded
min_abs_row f = vector (min_abs_of f)

abbrev pub vbitop_row : Fields → Decoded
vbitop_row f = vector (vbitop_of f)

abbrev pub logic_row : Fields → Logic → Decoded
logic_row f logic = vector (logic_of f logic)

abbrev pub cmpad_row : Fields → ℕ → Decoded
cmpad_row f mask = masked_of mask (cmpad_of f mask)

abbrev pub swz_row : Fields → Decoded
swz_row f = vector (swz_of f)

abbrev pub mov_row : Fields → Decoded
mov_row f = vector (mov_of f)

abbrev pub mov_imm_row : Fields → Decoded
mov_imm_row f = vector (mov_imm_of f)

abbrev pub mov_flags_row : Fields → Decoded
mov_flags_row f = vector (mov_flags_of f)

unfoldable pub rows : Fields → ℕ → ℕ → List Decoded
rows f side mask =
    -- 0x80
    none ∷ none ∷ none ∷ none ∷ none ∷ none ∷ none ∷ none ∷
    -- 0x88: vmin s, vmax s, vabs s, vneg s, vadd s, vsub s, vsar, vcmpad
    arith_row f Min true false ∷ arith_row f Max true false ∷ unary_row f Abs true ∷ unary_row f Neg true ∷ arith_row f Add true false ∷ arith_row f Sub true false ∷ shift_row f true false ∷ cmpad_row f mask ∷
    -- 0x90: .. vbitop
    none ∷ none ∷ none ∷ none ∷ vbitop_row f ∷ none ∷ none ∷ none ∷
    -- 0x98: vmin u, vmax u, vabs u, vswz, vadd u, vsub u, vshr, vadd9
    arith_row f Min false false ∷ arith_row f Max false false ∷ unary_row f Abs false ∷ swz_row f ∷ arith_row f Add false false ∷ arith_row f Sub false false ∷ shift_row f false false ∷ add9_row f ∷
    -- 0xa0: .. vclip, vminabs
    none ∷ none ∷ none ∷ none ∷ clip_row f ∷ min_abs_row f ∷ none ∷ none ∷
    -- 0xa8: vmin s, vmax s, vand, vxor, vadd s, vmov, vsar, vor, with BIMM
    arith_row f Min true true ∷ arith_row f Max true true ∷ logic_row f And ∷ logic_row f Xor ∷ arith_row f Add true true ∷ mov_imm_row f ∷ shift_row f true true ∷ logic_row f Or ∷
    -- 0xb0
    none ∷ none ∷ none ∷ none ∷ none ∷ none ∷ none ∷ none ∷
    -- 0xb8: vmin u, vmax u, mov, mov from $vc, vadd u, vsub u, vshr, the vector nop
    arith_row f Min false true ∷ arith_row f Max false true ∷ mov_row f ∷ mov_flags_row f ∷ arith_row f Add false true ∷ arith_row f Sub false true ∷ shift_row f false true ∷ nop ∷
    -- 0xc0: ldavh, ldavv, ldas, .., stavh, stavv, stas, .. by a register
    lda_row f Horizontal side ∷ lda_row f Vertical side ∷ lda_row f Scalar side ∷ none ∷ sta_row f Horizontal side ∷ sta_row f Vertical side ∷ sta_row f Scalar side ∷ none ∷
    -- 0xc8: .. aadd, add, setlo, sethi
    none ∷ none ∷ aadd_row f side ∷ add_row f side ∷ set_row f Low ∷ set_row f High ∷ none ∷ none ∷
    -- 0xd0: ldavh, ldavv, ldas, bitop, stavh, stavv, stas, .. by an immediate
    lda_imm_row f Horizontal ∷ lda_imm_row f Vertical ∷ lda_imm_row f Scalar ∷ bitop_row f ∷ sta_imm_row f Horizontal ∷ sta_imm_row f Vertical ∷ sta_imm_row f Scalar ∷ none ∷
    -- 0xd8: ldvh, ldvv, lds, .., stvh, stvv, sts, the address nop
    ld_row f Horizontal ∷ ld_row f Vertical ∷ ld_row f Scalar ∷ none ∷ st_row f Horizontal ∷ st_row f Vertical ∷ st_row f Scalar ∷ nop ∷
    []

-- 1: an opcode below 0x80 or above 0xdf. 2: one of those between that is not documented
unfoldable pub decode_at : ℕ → Fields → ℕ → ℕ → Decoded
decode_at op f side mask =
    cond (ltb op 0x80) (D.Refused Foreign)
    (cond (ltb 0xdf op) (D.Refused Foreign)
    (get_or (rows f side mask) (op - 0x80) none))

unfoldable pub decode_of : ℕ → ℕ → ℕ → Decoded
decode_of w side mask = decode_at (fields_of w).op (fields_of w) side mask
