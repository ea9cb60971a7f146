-- `words::imm_of` meets its contract: IMM is the low eleven bits of the word's eighth, of which bit 10 is the sign.
use Rattle.signed.specs.Signed.{sext}
use Rattle.signed.proofs.Z.{passed}
use Rattle.words.proofs.imm_of.Goals as goal

pub returns : goal.returns
unfolding sext
returns c = passed c.sext.type_inv c.sext.ensures
