-- The fields of an instruction word, and the side inputs. Document 01, "Fields of the word".
use Rattle.std.specs.Prelude.{ℕ, ◌/◌, ◌%◌, Bool, cond, ltb, eqb, ℤ, pos, ◌-ℤ◌}
use Rattle.words.specs.declared.Fields.{Fields}
use Rattle.words.specs.Second.{Second}
use Rattle.words.specs.Second as S
use Rattle.words.specs.Input.{Input}
use Rattle.words.specs.Input as I

-- UIMM: bits 3 to 13, 0 to 2,047
abbrev pub uimm_of : ℕ → ℕ
uimm_of w = w / 8 % 2048

-- IMM: the same bits signed, -1,024 to 1,023
abbrev pub imm_of : ℕ → ℤ
imm_of w = cond (ltb (uimm_of w) 1024) (pos (uimm_of w)) (pos (uimm_of w) -ℤ pos 2048)

-- opcode 24-31, DST 19-23, SRC1 14-18, SRC2 9-13, SRC3 4-8, CDST and VCDST 0-2, BITOP 3-6, CMPOP 19-22, BIMM 3-10, IMM16 0-15, SWZLOHI 3
unfoldable pub fields_of : ℕ → Fields
fields_of w =
    record {
      op = w / 16777216 % 256;
      dst = w / 524288 % 32;
      src1 = w / 16384 % 32;
      src2 = w / 512 % 32;
      src3 = w / 16 % 32;
      flags = w % 8;
      bitop = w / 8 % 16;
      cmpop = w / 524288 % 16;
      byte = w / 8 % 256;
      half = w % 65536;
      uimm = uimm_of w;
      imm = imm_of w;
      hi = eqb (w / 8 % 2) 1;
    }

-- source 2: BIMM, or the register SRC2
abbrev pub second_of : Fields → Bool → Second
second_of f byte = cond byte (S.Byte f.byte) (S.Register f.src2)

-- the side mask word: bit 16 says that the mask in bits 0-15 is valid
abbrev pub input_of : ℕ → Input
input_of mask = cond (ltb mask 65536) I.Signs (I.Mask (mask % 65536))
