-- One instruction, as the model reads it.
use Rattle.words.specs.Address as A
use Rattle.words.specs.Vector as W

pub data Insn : Type 0 where
  Address : A.Address → Insn
  Vector : W.Vector → Insn
  Nop : Insn
