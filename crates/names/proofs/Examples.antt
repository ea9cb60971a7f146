-- Lines and normal forms as document 02 shows them, or says them in words.
use mathlib.Core.Path.{◌≡◌, refl}
use Rattle.names.specs.Line.{ascii, numeral, value_of, texts_of, fields_of, ended}
use Rattle.names.specs.Table.{rows, row_at, line_of, normal_of}

pub setlo : line_of 0xcc181234 ≡ ascii "setlo $a3 0x1234\n"
unfolding numeral value_of texts_of ended rows row_at line_of
setlo = refl

-- s after the name; the flags register shown, and left out
pub vmin_s : line_of 0x880fffc3 ≡ ascii "vmin s $vc3 $v1 $v31 $v31\n"
unfolding numeral value_of texts_of ended rows row_at line_of
vmin_s = refl

pub vmin_absent : line_of 0x880fffc4 ≡ ascii "vmin s $v1 $v31 $v31\n"
unfolding numeral value_of texts_of ended rows row_at line_of
vmin_absent = refl

-- BIMM is unsigned; IMM is signed
pub vadd_byte : line_of 0xac0007ff ≡ ascii "vadd s $v0 $v0 0xff\n"
unfolding numeral value_of texts_of ended rows row_at line_of
vadd_byte = refl

pub ldavh_least : line_of 0xd0002007 ≡ ascii "ldavh $v0 $a0 -0x400\n"
unfolding numeral value_of texts_of ended rows row_at line_of
ldavh_least = refl

pub ldavh_most : line_of 0xd0001ff8 ≡ ascii "ldavh $v0 $c0 $a0 0x3ff\n"
unfolding numeral value_of texts_of ended rows row_at line_of
ldavh_most = refl

-- SRC2S shows the SRC2 field
pub aadd : line_of 0xca080a01 ≡ ascii "aadd $c1 $a1 $a5\n"
unfolding numeral value_of texts_of ended rows row_at line_of
aadd = refl

-- in stores the data register is SRC1
pub stvv : line_of 0xdd0843fb ≡ ascii "stvv $v1 $c3 $a1 0x7f\n"
unfolding numeral value_of texts_of ended rows row_at line_of
stvv = refl

-- the first register of vcmpad's pair alone, whatever it is; CMPOP first
pub vcmpad : line_of 0x8f50460a ≡ ascii "vcmpad 0xa $vc2 $v1 $v3\n"
unfolding numeral value_of texts_of ended rows row_at line_of
vcmpad = refl

pub vswz : line_of 0x9b08863b ≡ ascii "vswz hi $v1 $v2 $v3 $v3\n"
unfolding numeral value_of texts_of ended rows row_at line_of
vswz = refl

pub mov_vc : line_of 0xbb080000 ≡ ascii "mov $v1 $vc\n"
unfolding numeral value_of texts_of ended rows row_at line_of
mov_vc = refl

pub anop : line_of 0xdf123456 ≡ ascii "anop\n"
unfolding texts_of ended rows row_at line_of
anop = refl

pub vnop : line_of 0xbfffffff ≡ ascii "vnop\n"
unfolding texts_of ended rows row_at line_of
vnop = refl

-- ignored bits 0, an absent flags register 7
pub normal_nop : normal_of 0xdf123456 ≡ 0xdf000000
unfolding fields_of rows row_at normal_of
normal_nop = refl

pub normal_absent : normal_of 0xba0fffec ≡ 0xba0fc007
unfolding value_of fields_of rows row_at normal_of
normal_absent = refl

pub normal_shown : normal_of 0xba0fffea ≡ 0xba0fc002
unfolding value_of fields_of rows row_at normal_of
normal_shown = refl
