-- Document 01's table of places: what each instruction reads and writes, worked out in a state. No instruction's meaning is used here.
use Rattle.std.specs.Prelude.{ℕ, ◌/◌, ◌%◌, cond, List, [], ◌∷◌, ◌++◌, map, ltb, get_or}
use Rattle.std.specs.Int.Bits.{bit_or}
use Rattle.banks.specs.Line.{addresses}
use Rattle.terms.specs.declared.Way.{Way}
use Rattle.terms.specs.declared.Way.TheVariants.{Horizontal, Vertical, Scalar}
use Rattle.terms.specs.declared.Half as H
use Rattle.terms.specs.declared.Half.TheVariants.{Low, High}
use Rattle.words.specs.declared.Increment.{Increment}
use Rattle.words.specs.declared.Increment.TheVariants as I
use Rattle.words.specs.Second.{Second}
use Rattle.words.specs.Second as S
use Rattle.words.specs.Input.{Input}
use Rattle.words.specs.Input.{Mask, Signs}
use Rattle.words.specs.Address.{Address}
use Rattle.words.specs.Address as A
use Rattle.words.specs.Vector.{Vector}
use Rattle.words.specs.Vector as W
use Rattle.words.specs.Insn.{Insn}
use Rattle.words.specs.Insn as N
use Rattle.pieces.specs.State.{State}
use Rattle.pieces.specs.Place.{Place, vec, byte, Xlat, alo, ahi, reg, long, short, signs, zeros}

-- "both halves"
abbrev pub halves : ℕ → List Place
halves n = alo n ∷ ahi n ∷ []

-- "one half in setlo, sethi"
abbrev pub half_of : H.Half → ℕ → Place
half_of Low n = alo n
half_of High n = ahi n

-- "the low half of SRC2S in those lda and sta whose increment is a register"
abbrev pub increment : Increment → List Place
increment (I.Register n) = alo n ∷ []
increment (I.Immediate i) = []

-- "every $v source register": source 2, where it is a register
abbrev pub second : Second → List Place
second (S.Register n) = vec n ∷ []
second (S.Byte b) = []
second S.Absent = []

-- "the input signs in vcmpad when the mask isn't valid"
abbrev pub input : ℕ → Input → List Place
input vcdst (Mask m) = []
input vcdst Signs = signs (vcdst % 4) ∷ []

-- "the flags named, if written"
abbrev pub written : ℕ → List Place → List Place
written n ps = cond (ltb n 4) ps []

abbrev pub long_of : ℕ → List Place
long_of cdst = written cdst (long cdst ∷ [])

abbrev pub short_of : ℕ → List Place
short_of cdst = written cdst (short cdst ∷ [])

abbrev pub flags_of : ℕ → List Place
flags_of vcdst = written vcdst (signs vcdst ∷ zeros vcdst ∷ [])

-- the register of a load or a store: one $v, or one $r of a scalar access
abbrev pub datum : Way → ℕ → Place
datum Horizontal n = vec n
datum Vertical n = vec n
datum Scalar n = reg n

-- the addr field and the stride code of $a[n]
abbrev pub addr_in : State → ℕ → ℕ
addr_in s n = get_or s.a n 0 % 65536

abbrev pub code_in : State → ℕ → ℕ
code_in s n = get_or s.a n 0 / 65536 / 16384

module _ (X : Xlat) where
  -- "the loaded bytes", "stored bytes": those of the address list
  abbrev pub bytes : Way → ℕ → ℕ → List Place
  bytes way c x = map {B = Place} (λ y. byte (X c y)) (addresses way c x)

  -- the bytes of ld and st, at addr OR UIMM; of lda and sta, at addr
  abbrev pub at_or : Way → ℕ → ℕ → State → List Place
  at_or way n uimm s = bytes way (code_in s n) (bit_or (addr_in s n) uimm)

  abbrev pub at_addr : Way → ℕ → State → List Place
  at_addr way n s = bytes way (code_in s n) (addr_in s n)

  abbrev pub reads_a : Address → State → List Place
  reads_a (A.Set o) s = []
  reads_a (A.Add o) s = halves o.src1 ++ halves o.src2
  reads_a (A.Bitop o) s = halves o.src1 ++ halves o.src2
  reads_a (A.Aadd o) s = halves o.dst ++ (alo o.src2 ∷ [])
  reads_a (A.Ld o) s = halves o.base ++ at_or o.way o.base o.uimm s
  reads_a (A.St o) s = halves o.base ++ (datum o.way o.reg ∷ [])
  reads_a (A.Lda o) s = halves o.base ++ (increment o.inc ++ at_addr o.way o.base s)
  reads_a (A.Sta o) s = halves o.base ++ (increment o.inc ++ (datum o.way o.reg ∷ []))

  abbrev pub writes_a : Address → State → List Place
  writes_a (A.Set o) s = half_of o.half o.dst ∷ []
  writes_a (A.Add o) s = halves o.dst ++ long_of o.cdst
  writes_a (A.Bitop o) s = halves o.dst ++ long_of o.flags
  writes_a (A.Aadd o) s = alo o.dst ∷ short_of o.cdst
  writes_a (A.Ld o) s = datum o.way o.reg ∷ short_of o.cdst
  writes_a (A.St o) s = at_or o.way o.base o.uimm s ++ short_of o.cdst
  writes_a (A.Lda o) s = datum o.way o.reg ∷ alo o.base ∷ short_of o.cdst
  writes_a (A.Sta o) s = at_addr o.way o.base s ++ (alo o.base ∷ short_of o.cdst)

-- vcmpad reads "both of its pair"; mov from $vc reads "all $vc"
abbrev pub reads_v : Vector → List Place
reads_v (W.Arith o) = vec o.src1 ∷ second o.second
reads_v (W.Shift o) = vec o.src1 ∷ second o.second
reads_v (W.Clip o) = vec o.src1 ∷ vec o.src2 ∷ vec o.src3 ∷ []
reads_v (W.Add9 o) = vec o.src1 ∷ vec o.src2 ∷ vec o.src3 ∷ []
reads_v (W.MinAbs o) = vec o.src1 ∷ vec o.src2 ∷ []
reads_v (W.Bitop o) = vec o.src1 ∷ vec o.src2 ∷ []
reads_v (W.Logic o) = vec o.src1 ∷ []
reads_v (W.Cmpad o) = vec o.src1 ∷ vec (bit_or o.src1 1) ∷ vec o.src2 ∷ input o.vcdst o.input
reads_v (W.Swz o) = vec o.src1 ∷ vec o.src2 ∷ vec o.src3 ∷ []
reads_v (W.Mov o) = vec o.src1 ∷ []
reads_v (W.MovImm o) = []
reads_v (W.MovFlags dst) = signs 0 ∷ zeros 0 ∷ signs 1 ∷ zeros 1 ∷ signs 2 ∷ zeros 2 ∷ signs 3 ∷ zeros 3 ∷ []

abbrev pub writes_v : Vector → List Place
writes_v (W.Arith o) = vec o.dst ∷ flags_of o.vcdst
writes_v (W.Shift o) = vec o.dst ∷ flags_of o.vcdst
writes_v (W.Clip o) = vec o.dst ∷ flags_of o.vcdst
writes_v (W.Add9 o) = vec o.dst ∷ flags_of o.vcdst
writes_v (W.MinAbs o) = vec o.dst ∷ flags_of o.vcdst
writes_v (W.Bitop o) = vec o.dst ∷ flags_of o.flags
writes_v (W.Logic o) = vec o.dst ∷ flags_of o.vcdst
writes_v (W.Cmpad o) = flags_of o.vcdst
writes_v (W.Swz o) = vec o.dst ∷ []
writes_v (W.Mov o) = vec o.dst ∷ flags_of o.vcdst
writes_v (W.MovImm o) = vec o.dst ∷ flags_of o.vcdst
writes_v (W.MovFlags dst) = vec dst ∷ []

module _ (X : Xlat) where
  abbrev pub reads : Insn → State → List Place
  reads (N.Address i) s = reads_a X i s
  reads (N.Vector i) s = reads_v i
  reads N.Nop s = []

  abbrev pub writes : Insn → State → List Place
  writes (N.Address i) s = writes_a X i s
  writes (N.Vector i) s = writes_v i
  writes N.Nop s = []
