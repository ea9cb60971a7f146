-- The one table: a row for each opcode from 0x80 to 0xdf, its name and its operands in the chapters' order. From it come the line of a word and its
-- normal form. Document 02, wish 2; the chapters' tables "Instructions"; document 01, "Fields of the word".
use Rattle.std.specs.Prelude.{ℕ, ◌+◌, ◌*◌, ◌-◌, ◌/◌, ◌%◌, ◌^◌, Bool, cond, not, List, [], ◌∷◌, ◌++◌, ltb, get_or}
use Prim.Native.String as S
use lib.Text.{eqt}
use Rattle.names.specs.Line.{ascii, Kind, number, flags, signed, lohi, allvc, Operand, texts_of, fields_of, ended}

pub record Row : Type 0 where
  pub name : S.String
  pub operands : List Operand

-- ---- operands: what they show, and their fields, by the first bit and the number of bits

abbrev pub field : Kind → ℕ → ℕ → Operand
field k at bits = record { kind = k; at = at; bits = bits }

abbrev pub areg : ℕ → Operand
areg at = field (number 10 (ascii "$a")) at 5

abbrev pub rreg : ℕ → Operand
rreg at = field (number 10 (ascii "$r")) at 5

abbrev pub vreg : ℕ → Operand
vreg at = field (number 10 (ascii "$v")) at 5

abbrev pub hex : ℕ → ℕ → Operand
hex at bits = field (number 16 (ascii "0x")) at bits

-- register fields: DST 19-23, SRC1 14-18, SRC2 9-13, SRC3 4-8
abbrev pub dst : ℕ
dst = 19

abbrev pub src1 : ℕ
src1 = 14

abbrev pub src2 : ℕ
src2 = 9

abbrev pub src3 : ℕ
src3 = 4

-- CDST and VCDST 0-2
abbrev pub c : Operand
c = field (flags (ascii "$c")) 0 3

abbrev pub vc : Operand
vc = field (flags (ascii "$vc")) 0 3

-- all of `$vc`: no field
abbrev pub every_vc : Operand
every_vc = field allvc 0 0

-- "BIMM is always written unsigned": 3-10
abbrev pub bimm : Operand
bimm = hex 3 8

-- UIMM: 3-13. IMM: the same bits, signed
abbrev pub uimm : Operand
uimm = hex 3 11

abbrev pub imm : Operand
imm = field signed 3 11

-- IMM16 0-15, BITOP 3-6, CMPOP 19-22, SWZLOHI 3
abbrev pub imm16 : Operand
imm16 = hex 0 16

abbrev pub bitop : Operand
bitop = hex 3 4

abbrev pub cmpop : Operand
cmpop = hex 19 4

abbrev pub half : Operand
half = field lohi 3 1

-- ---- rows

abbrev pub row : S.String → List Operand → Row
row n os = record { name = n; operands = os }

-- not documented
abbrev pub none : Row
none = row "" []

-- `[$vc[VCDST]] $v[DST] $v[SRC1]`, and what may follow
abbrev pub two : S.String → Row
two n = row n (vc ∷ vreg dst ∷ vreg src1 ∷ [])

abbrev pub three : S.String → Operand → Row
three n o = row n (vc ∷ vreg dst ∷ vreg src1 ∷ o ∷ [])

abbrev pub four : S.String → Row
four n = row n (vc ∷ vreg dst ∷ vreg src1 ∷ vreg src2 ∷ vreg src3 ∷ [])

-- `$v[DST] [$c[CDST]] $a[SRC1]`, and what follows; in stores DST and SRC1 are exchanged. "SRC2S shows and keeps the SRC2 field"
abbrev pub load : S.String → (ℕ → Operand) → Operand → Row
load n reg o = row n (reg dst ∷ c ∷ areg src1 ∷ o ∷ [])

abbrev pub save : S.String → (ℕ → Operand) → Operand → Row
save n reg o = row n (reg src1 ∷ c ∷ areg dst ∷ o ∷ [])

unfoldable pub rows : List Row
rows =
    -- 0x80
    none ∷ none ∷ none ∷ none ∷ none ∷ none ∷ none ∷ none ∷
    -- 0x88
    three "vmin s" (vreg src2) ∷
    three "vmax s" (vreg src2) ∷
    two "vabs s" ∷
    two "vneg s" ∷
    three "vadd s" (vreg src2) ∷
    three "vsub s" (vreg src2) ∷
    three "vsar" (vreg src2) ∷
    row "vcmpad" (cmpop ∷ vc ∷ vreg src1 ∷ vreg src2 ∷ []) ∷
    -- 0x90
    none ∷ none ∷ none ∷ none ∷
    row "vbitop" (bitop ∷ vc ∷ vreg dst ∷ vreg src1 ∷ vreg src2 ∷ []) ∷
    none ∷ none ∷ none ∷
    -- 0x98
    three "vmin u" (vreg src2) ∷
    three "vmax u" (vreg src2) ∷
    two "vabs u" ∷
    row "vswz" (half ∷ vreg dst ∷ vreg src1 ∷ vreg src2 ∷ vreg src3 ∷ []) ∷
    three "vadd u" (vreg src2) ∷
    three "vsub u" (vreg src2) ∷
    three "vshr" (vreg src2) ∷
    four "vadd9" ∷
    -- 0xa0
    none ∷ none ∷ none ∷ none ∷
    four "vclip" ∷
    three "vminabs" (vreg src2) ∷
    none ∷ none ∷
    -- 0xa8
    three "vmin s" bimm ∷
    three "vmax s" bimm ∷
    three "vand" bimm ∷
    three "vxor" bimm ∷
    three "vadd s" bimm ∷
    row "vmov" (vc ∷ vreg dst ∷ bimm ∷ []) ∷
    three "vsar" bimm ∷
    three "vor" bimm ∷
    -- 0xb0
    none ∷ none ∷ none ∷ none ∷ none ∷ none ∷ none ∷ none ∷
    -- 0xb8
    three "vmin u" bimm ∷
    three "vmax u" bimm ∷
    two "mov" ∷
    row "mov" (vreg dst ∷ every_vc ∷ []) ∷
    three "vadd u" bimm ∷
    three "vsub u" bimm ∷
    three "vshr" bimm ∷
    row "vnop" [] ∷
    -- 0xc0
    load "ldavh" vreg (areg src2) ∷
    load "ldavv" vreg (areg src2) ∷
    load "ldas" rreg (areg src2) ∷
    none ∷
    save "stavh" vreg (areg src2) ∷
    save "stavv" vreg (areg src2) ∷
    save "stas" rreg (areg src2) ∷
    none ∷
    -- 0xc8
    none ∷ none ∷
    row "aadd" (c ∷ areg dst ∷ areg src2 ∷ []) ∷
    row "add" (c ∷ areg dst ∷ areg src1 ∷ areg src2 ∷ []) ∷
    row "setlo" (areg dst ∷ imm16 ∷ []) ∷
    row "sethi" (areg dst ∷ imm16 ∷ []) ∷
    none ∷ none ∷
    -- 0xd0
    load "ldavh" vreg imm ∷
    load "ldavv" vreg imm ∷
    load "ldas" rreg imm ∷
    row "bitop" (bitop ∷ c ∷ areg dst ∷ areg src1 ∷ areg src2 ∷ []) ∷
    save "stavh" vreg imm ∷
    save "stavv" vreg imm ∷
    save "stas" rreg imm ∷
    none ∷
    -- 0xd8
    load "ldvh" vreg uimm ∷
    load "ldvv" vreg uimm ∷
    load "lds" rreg uimm ∷
    none ∷
    save "stvh" vreg uimm ∷
    save "stvv" vreg uimm ∷
    save "sts" rreg uimm ∷
    row "anop" [] ∷ []

-- the row of an opcode; below 0x80 and above 0xdf there is none
unfoldable pub row_at : ℕ → Row
row_at op = cond (ltb op 128) none (get_or rows (op - 128) none)

-- documented: it has a name. `names/proofs/Documented.antt` shows that these are the opcodes of `words`
abbrev pub documented : ℕ → Bool
documented op = not (eqt (row_at op).name "")

abbrev pub name_at : ℕ → List ℕ
name_at op = ascii (row_at op).name

abbrev pub operands_at : ℕ → List Operand
operands_at op = (row_at op).operands

abbrev pub op_of : ℕ → ℕ
op_of w = w / 2 ^ 24 % 256

-- ---- a word's line, and its normal form: the opcode and the fields shown, ignored bits 0, an absent flags register 7

unfoldable pub line_of : ℕ → List ℕ
line_of w = name_at (op_of w) ++ ended (texts_of (operands_at (op_of w)) w)

unfoldable pub normal_of : ℕ → ℕ
normal_of w = op_of w * 2 ^ 24 + fields_of (operands_at (op_of w)) w
