-- The word's bytes go to the line in four banks.
use Rattle.std.proofs.Common.{ℕ, List, ap, rules}
use Rattle.store.specs.Inner.Loads.{stored, bytes_of}
use Rattle.store.proofs.Access.{four_places}
use Rattle.store.proofs.word_to.Goals as goal

pub returns : goal.returns
unfolding stored bytes_of
returns c =
    let a = c.args in
    rw c.to_le_bytes.ensures (ap (λ (ps : List ℕ). stored a.ds.now ps (bytes_of a.word)) (four_places a.line a.first (search rules)))
