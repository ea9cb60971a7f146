-- `words::by_immediate` meets its contract.
use Rattle.std.proofs.Common.{ap, ℤ}
use Rattle.signed.proofs.Z.{passed}
use Rattle.words.specs.Fields.{fields_of}
use Rattle.words.specs.Inner.Meant.{moving}
use Rattle.words.specs.declared.Increment.TheVariants.{Immediate}
use Rattle.words.proofs.by_immediate.Goals as goal

pub returns : goal.returns
unfolding fields_of
returns c = ap (λ (z : ℤ). moving c.args.word (Immediate z)) (passed c.imm_of.type_inv c.imm_of.ensures)
