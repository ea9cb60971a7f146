-- What the code's flat instruction means: the model's instruction, with the operands cut from the payload's bits.
use Rattle.std.specs.Prelude.{Ok, Err, ℕ, ◌/◌, ◌%◌, Bool, true, false, cond, ltb, eqb}
use Rattle.terms.specs.declared.Way.TheVariants.{Horizontal, Vertical, Scalar}
use Rattle.lane.specs.declared.Calc.TheVariants.{Min, Max, Abs, Neg, Add, Sub}
use Rattle.lane.specs.declared.Logic.TheVariants.{And, Xor, Or}
use Rattle.words.specs.Fields.{fields_of, second_of}
use Rattle.words.specs.Table.{set_of, add_of, aadd_of, bitop_of, ld_of, st_of, lda_of, sta_of, arith_of, shift_of, clip_of, add9_of, min_abs_of, vbitop_of, logic_of, cmpad_of, swz_of, mov_of, mov_imm_of, mov_flags_of}
use Rattle.words.specs.Second.{Second}
use Rattle.words.specs.Second as S
use Rattle.words.specs.Insn as N
use Rattle.words.specs.Decoded as D
use Rattle.terms.specs.declared.Half.TheVariants.{Low, High}
use Rattle.terms.specs.declared.Refusal.TheVariants.{SideIndex, SideMask}
use Rattle.words.specs.declared.Increment.{Increment}
use Rattle.words.specs.declared.AccessAdd.{AccessAdd}
use Rattle.words.specs.declared.Insn.{Insn}
use Rattle.words.specs.declared.Insn.TheVariants as I
use Rattle.std.specs.declared.result.Result.{Result}
use Rattle.terms.specs.declared.Refusal.{Refusal}

-- of the instructions that have source 2 both ways: the chapter's "if opcode & 0x20: s2 = BIMM"
abbrev pub by_byte : ℕ → Bool
by_byte op = eqb (op / 32 % 2) 1

abbrev pub second_by : ℕ → Second
second_by w = second_of (fields_of w) (by_byte (fields_of w).op)

-- the operands of a load or store that moves its address on
abbrev pub moving : ℕ → Increment → AccessAdd
moving w inc = record { bits = w; inc = inc }

unfoldable pub meant : Insn → N.Insn
meant (I.VminS w) = N.Vector (arith_of (fields_of w) Min true (second_by w))
meant (I.VmaxS w) = N.Vector (arith_of (fields_of w) Max true (second_by w))
meant (I.VabsS w) = N.Vector (arith_of (fields_of w) Abs true S.Absent)
meant (I.VnegS w) = N.Vector (arith_of (fields_of w) Neg true S.Absent)
meant (I.VaddS w) = N.Vector (arith_of (fields_of w) Add true (second_by w))
meant (I.VsubS w) = N.Vector (arith_of (fields_of w) Sub true (S.Register (fields_of w).src2))
meant (I.Vsar w) = N.Vector (shift_of (fields_of w) true (second_by w))
meant (I.Vcmpad w mask) = N.Vector (cmpad_of (fields_of w) mask)
meant (I.Vbitop w) = N.Vector (vbitop_of (fields_of w))
meant (I.VminU w) = N.Vector (arith_of (fields_of w) Min false (second_by w))
meant (I.VmaxU w) = N.Vector (arith_of (fields_of w) Max false (second_by w))
meant (I.VabsU w) = N.Vector (arith_of (fields_of w) Abs false S.Absent)
meant (I.Vswz w) = N.Vector (swz_of (fields_of w))
meant (I.VaddU w) = N.Vector (arith_of (fields_of w) Add false (second_by w))
meant (I.VsubU w) = N.Vector (arith_of (fields_of w) Sub false (second_by w))
meant (I.Vshr w) = N.Vector (shift_of (fields_of w) false (second_by w))
meant (I.Vadd9 w) = N.Vector (add9_of (fields_of w))
meant (I.Vclip w) = N.Vector (clip_of (fields_of w))
meant (I.Vminabs w) = N.Vector (min_abs_of (fields_of w))
meant (I.Vand w) = N.Vector (logic_of (fields_of w) And)
meant (I.Vxor w) = N.Vector (logic_of (fields_of w) Xor)
meant (I.Vmov w) = N.Vector (mov_imm_of (fields_of w))
meant (I.Vor w) = N.Vector (logic_of (fields_of w) Or)
meant (I.Mov w) = N.Vector (mov_of (fields_of w))
meant (I.MovVc w) = N.Vector (mov_flags_of (fields_of w))
meant I.Nop = N.Nop
meant (I.Ldavh o) = N.Address (lda_of (fields_of o.bits) Horizontal o.inc)
meant (I.Ldavv o) = N.Address (lda_of (fields_of o.bits) Vertical o.inc)
meant (I.Ldas o) = N.Address (lda_of (fields_of o.bits) Scalar o.inc)
meant (I.Stavh o) = N.Address (sta_of (fields_of o.bits) Horizontal o.inc)
meant (I.Stavv o) = N.Address (sta_of (fields_of o.bits) Vertical o.inc)
meant (I.Stas o) = N.Address (sta_of (fields_of o.bits) Scalar o.inc)
meant (I.Aadd w index) = N.Address (aadd_of (fields_of w) index)
meant (I.Add w index) = N.Address (add_of (fields_of w) index)
meant (I.Setlo w) = N.Address (set_of (fields_of w) Low)
meant (I.Sethi w) = N.Address (set_of (fields_of w) High)
meant (I.Bitop w) = N.Address (bitop_of (fields_of w))
meant (I.Ldvh w) = N.Address (ld_of (fields_of w) Horizontal)
meant (I.Ldvv w) = N.Address (ld_of (fields_of w) Vertical)
meant (I.Lds w) = N.Address (ld_of (fields_of w) Scalar)
meant (I.Stvh w) = N.Address (st_of (fields_of w) Horizontal)
meant (I.Stvv w) = N.Address (st_of (fields_of w) Vertical)
meant (I.Sts w) = N.Address (st_of (fields_of w) Scalar)

abbrev pub meant_d : Result Insn Refusal → D.Decoded
meant_d (Ok i) = D.Insn (meant i)
meant_d (Err k) = D.Refused k

-- refused where the side index is above 31, or the side mask word above 0x1ffff
abbrev pub sided_by : ℕ → Insn → D.Decoded
sided_by side i = cond (ltb side 32) (D.Insn (meant i)) (D.Refused SideIndex)

abbrev pub masked_by : ℕ → Insn → D.Decoded
masked_by mask i = cond (ltb mask 131072) (D.Insn (meant i)) (D.Refused SideMask)
