-- `footprint::vector::mov_vc` meets its contract.
use Rattle.words.specs.Table.{mov_flags_of}
use Rattle.model.specs.Table.{reads_v, writes_v}
use Rattle.footprint.specs.Inner.Numbers.{touched}
use Rattle.footprint.proofs.Grown.{ends, cut}
use Rattle.footprint.proofs.vector.mov_vc.Goals as goal

pub returns : goal.returns
returns c =
    cut (λ f. touched (reads_v (mov_flags_of f)) (writes_v (mov_flags_of f))) c.cut-f.ensures.0 (ends c.all_flags-read.ensures c.put_vector-list.ensures)
