-- The registers that an instruction names are there: what decode gives, and what the inner functions ask.
use Rattle.std.specs.Prelude.{◌<◌}
use Rattle.words.specs.declared.Increment.{Increment}
use Rattle.words.specs.declared.Increment.TheVariants as I
use Rattle.words.specs.Second.{Second}
use Rattle.words.specs.Second as S
use Rattle.words.specs.Address.{Address}
use Rattle.words.specs.Address as A
use Rattle.words.specs.Vector.{Vector}
use Rattle.words.specs.Vector as W
use Rattle.words.specs.Insn.{Insn}
use Rattle.words.specs.Insn as N
use Rattle.words.specs.Decoded.{Decoded}
use Rattle.words.specs.Decoded as D

abbrev pub BoundedI : Increment → Type 0
BoundedI (I.Register n) = n < 32
BoundedI (I.Immediate i) = Unit {0}

abbrev pub BoundedS : Second → Type 0
BoundedS (S.Register n) = n < 32
BoundedS (S.Byte b) = Unit {0}
BoundedS S.Absent = Unit {0}

unfoldable pub BoundedA : Address → Type 0
BoundedA (A.Set o) = o.dst < 32
BoundedA (A.Add o) = (o.dst < 32) × (o.src1 < 32) × (o.src2 < 32)
BoundedA (A.Bitop o) = (o.dst < 32) × (o.src1 < 32) × (o.src2 < 32)
BoundedA (A.Aadd o) = (o.dst < 32) × (o.src2 < 32)
BoundedA (A.Ld o) = (o.reg < 32) × (o.base < 32)
BoundedA (A.St o) = (o.reg < 32) × (o.base < 32)
BoundedA (A.Lda o) = (o.reg < 32) × (o.base < 32) × BoundedI o.inc
BoundedA (A.Sta o) = (o.reg < 32) × (o.base < 32) × BoundedI o.inc

unfoldable pub BoundedV : Vector → Type 0
BoundedV (W.Arith o) = (o.dst < 32) × (o.src1 < 32) × BoundedS o.second
BoundedV (W.Shift o) = (o.dst < 32) × (o.src1 < 32) × BoundedS o.second
BoundedV (W.Clip o) = (o.dst < 32) × (o.src1 < 32) × (o.src2 < 32) × (o.src3 < 32)
BoundedV (W.Add9 o) = (o.dst < 32) × (o.src1 < 32) × (o.src2 < 32) × (o.src3 < 32)
BoundedV (W.MinAbs o) = (o.dst < 32) × (o.src1 < 32) × (o.src2 < 32)
BoundedV (W.Bitop o) = (o.dst < 32) × (o.src1 < 32) × (o.src2 < 32)
BoundedV (W.Logic o) = (o.dst < 32) × (o.src1 < 32)
BoundedV (W.Cmpad o) = (o.src1 < 32) × (o.src2 < 32)
BoundedV (W.Swz o) = (o.dst < 32) × (o.src1 < 32) × (o.src2 < 32) × (o.src3 < 32)
BoundedV (W.Mov o) = (o.dst < 32) × (o.src1 < 32)
BoundedV (W.MovImm o) = o.dst < 32
BoundedV (W.MovFlags dst) = dst < 32

abbrev pub Bounded : Insn → Type 0
Bounded (N.Address i) = BoundedA i
Bounded (N.Vector i) = BoundedV i
Bounded N.Nop = Unit {0}

abbrev pub BoundedD : Decoded → Type 0
BoundedD (D.Insn i) = Bounded i
BoundedD (D.Refused k) = Unit {0}
