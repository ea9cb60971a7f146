-- What a word decodes to: an instruction or a refusal.
use Rattle.words.specs.Insn as N
use Rattle.terms.specs.declared.Refusal.{Refusal}

pub data Decoded : Type 0 where
  Insn : N.Insn → Decoded
  Refused : Refusal → Decoded
