-- `footprint::vector::swz` meets its contract.
use Rattle.words.specs.Table.{swz_of}
use Rattle.model.specs.Table.{reads_v, writes_v}
use Rattle.footprint.specs.Inner.Numbers.{touched}
use Rattle.footprint.proofs.Grown.{ends, cut}
use Rattle.footprint.proofs.vector.swz.Goals as goal

pub returns : goal.returns
returns c = cut (λ f. touched (reads_v (swz_of f)) (writes_v (swz_of f))) c.cut-f.ensures.0 (ends c.sources-read.ensures c.put_vector-list.ensures)
