-- The line's places in the four banks are the word's.
use Rattle.std.proofs.Common.{rules}
use Rattle.terms.specs.declared.Way.TheVariants.{Scalar}
use Rattle.store.proofs.Laws.{stored_along}
use Rattle.store.proofs.Access.{start_within, line_within, bank_within, word_places}
use Rattle.store.proofs.store_word.Goals as goal

pub bank-requires : goal.bank-requires
bank-requires c = (search rules, start_within Scalar _ _ _ c.start-start.ensures)

pub word_to-requires : goal.word_to-requires
word_to-requires c = (line_within Scalar _ _ _ c.start-start.ensures, bank_within _ _ _ c.bank.ensures)

pub returns : goal.returns
returns c = stored_along _ _ _ _ _ c.word_to.ensures (word_places _ _ _ _ c.start-start.ensures c.bank.ensures)
