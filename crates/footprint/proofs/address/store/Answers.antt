-- `footprint::address::store` meets its contract.
use Rattle.words.specs.Table.{st_of}
use Rattle.footprint.specs.Inner.Numbers.{addressed}
use Rattle.footprint.proofs.Grown.{both, ends, cut}
use Rattle.footprint.proofs.address.store.Goals as goal

pub returns : goal.returns
returns c =
    cut (λ f. addressed (st_of f c.args.way) c.args.a.now) c.cut-f.ensures.0
    (ends (both (both c.empty.ensures c.put_halves-base.ensures) c.put_datum-read.ensures) (both c.put_access-bytes.ensures c.put_flag-list.ensures))
