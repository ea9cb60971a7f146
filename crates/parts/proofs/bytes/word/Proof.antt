-- `parts::bytes::word` meets its contract.
use borrow.Author.Rules.{rules}
use Rattle.store.specs.Inner.Loads.{word_of}
use Rattle.parts.proofs.bytes.word.Statement.{statement}
use Rattle.parts.proofs.bytes.word.Tie as tie

returns : tie.Need-returns
unfolding word_of
returns c = c.joined.ensures

pub word_spec : {M : Type 1} → statement M
word_spec =
    tie.close
    (tie.spec
    (λ c. search rules)
    (λ c. search rules)
    (λ c. search rules)
    (λ c. search rules)
    (λ c. search rules)
    (λ c. search rules)
    (λ c. search rules)
    (λ c κs. search rules)
    returns)
