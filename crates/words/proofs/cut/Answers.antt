-- `words::cut` meets its contract: each cast keeps its field, IMM is `imm_of`'s, and a register's number is below 32.
use Rattle.std.proofs.Common.{refl, arith}
use Rattle.signed.proofs.Z.{passed}
use Rattle.words.specs.Fields.{fields_of}
use Rattle.words.proofs.cut.Goals as goal

pub returns : goal.returns
unfolding fields_of
returns c = (rw (passed c.imm_of-imm.type_inv c.imm_of-imm.ensures) refl, omega arith, omega arith, omega arith, omega arith)
