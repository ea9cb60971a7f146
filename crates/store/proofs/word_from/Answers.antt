-- The bytes of the line in four banks, joined.
use Rattle.std.proofs.Common.{ℕ, List, ap, ◌∙◌, rules}
use Rattle.store.specs.Inner.Loads.{loaded, word_of}
use Rattle.store.proofs.Access.{four_places}
use Rattle.store.proofs.word_from.Goals as goal

pub returns : goal.returns
unfolding loaded
returns c =
    let a = c.args in
    c.joined.ensures ∙ ap (λ (ps : List ℕ). word_of (loaded a.ds.now ps)) (four_places a.line a.first (search rules))
