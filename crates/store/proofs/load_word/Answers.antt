-- The line's bytes in the four banks are the word's.
use Rattle.std.proofs.Common.{ℕ, List, ap, ◌∙◌, rules}
use Rattle.terms.specs.declared.Way.TheVariants.{Scalar}
use Rattle.store.specs.Inner.Loads.{loaded, word_of}
use Rattle.store.proofs.Access.{start_within, line_within, bank_within, word_places}
use Rattle.store.proofs.load_word.Goals as goal

pub bank-requires : goal.bank-requires
bank-requires c = (search rules, start_within Scalar _ _ _ c.start-start.ensures)

pub word_from-requires : goal.word_from-requires
word_from-requires c = (line_within Scalar _ _ _ c.start-start.ensures, bank_within _ _ _ c.bank.ensures)

pub returns : goal.returns
returns c =
    c.word_from.ensures
    ∙ ap (λ (ps : List ℕ). word_of (loaded c.args.ds.now ps)) (word_places _ _ _ _ c.start-start.ensures c.bank.ensures)
