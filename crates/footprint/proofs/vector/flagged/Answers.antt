-- `footprint::vector::flagged` meets its contract.
use lib.ListN.{take}
use Rattle.footprint.specs.Inner.Numbers.{touched, sources_in, flagged_in}
use Rattle.footprint.proofs.Grown.{both, ends, cut}
use Rattle.footprint.proofs.vector.flagged.Goals as goal

pub returns : goal.returns
returns c =
    cut (λ f. touched (take c.args.n (sources_in f)) (flagged_in f)) c.cut-f.ensures.0
    (ends c.sources-read.ensures (both c.put_vector.ensures c.put_flags-list.ensures))
