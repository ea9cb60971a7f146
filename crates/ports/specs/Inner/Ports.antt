-- What a vector instruction takes besides plain registers, and what it leaves in the two pieces that it changes.
use Rattle.std.specs.Prelude.{ℕ, ◌%◌, List, get_or, replicate}
use Rattle.lanes.specs.Lanes.{Lanes}
use Rattle.pieces.specs.Inner.Regs.{vreg_of, with_vreg, flags_at}
use Rattle.terms.specs.declared.Counted.{Counted}
use Rattle.words.specs.Second.{Second}
use Rattle.words.specs.Second.{Register, Byte, Absent}
use Rattle.words.specs.Input.{Input}
use Rattle.words.specs.Input.{Mask, Signs}

pub record Vectors : Type 0 where
  pub vc : List ℕ
  pub v : List ℕ

abbrev pub vectors : List ℕ → List ℕ → Vectors
vectors vc v = record { vc = vc; v = v }

-- source 2
unfoldable pub second_of : Second → List ℕ → List ℕ
second_of (Register n) v = vreg_of v n
second_of (Byte b) v = replicate 16 b
second_of Absent v = replicate 16 0

-- vcmpad's input bits
unfoldable pub input_of : ℕ → Input → List ℕ → ℕ
input_of vcdst (Mask m) vc = m
input_of vcdst Signs vc = get_or vc (vcdst % 4) 0 % 65536

-- a result written to $v[dst], its flags to $vc[vcdst]
unfoldable pub lanes_at : ℕ → ℕ → Lanes → Vectors → Vectors
lanes_at dst vcdst l s = vectors (flags_at vcdst l.signs l.zeros s.vc) (with_vreg s.v dst l.bytes)

-- what an instruction comes to: what it counts, and the two pieces afterwards
pub record Result : Type 0 where
  pub counted : Counted
  pub after : Vectors

abbrev pub result_from : Counted → Vectors → Result
result_from n s = record { counted = n; after = s }
