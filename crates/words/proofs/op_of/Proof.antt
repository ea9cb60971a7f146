-- `words::op_of` meets its contract.
use mathlib.Core.Path.{refl}
use borrow.Author.Rules.{rules}
use Rattle.words.specs.Fields.{fields_of}
use Rattle.words.proofs.op_of.Statement.{statement}
use Rattle.words.proofs.op_of.Tie as tie

pub op_of_spec : {M : Type 1} → statement M
unfolding fields_of
op_of_spec = tie.close (tie.spec (λ c. search rules) (λ c. refl))
