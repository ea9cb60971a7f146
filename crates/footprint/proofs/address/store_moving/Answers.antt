-- `footprint::address::store_moving` meets its contract.
use Rattle.words.specs.Table.{sta_of}
use Rattle.footprint.specs.Inner.Numbers.{addressed, lent}
use Rattle.footprint.proofs.Grown.{both, ends, cut}
use Rattle.footprint.proofs.Bytes.{at_addr_lem}
use Rattle.footprint.proofs.address.store_moving.Goals as goal

pub returns : goal.returns
returns c =
    let a = c.args in
    cut (λ f. addressed (sta_of f a.way a.o.inc) a.a.now) c.cut-f.ensures.0
    (ends (both c.moving-base.ensures c.put_datum-read.ensures)
    (both (at_addr_lem a.way c.cut-f.result.dst (lent a.a.now) c.put_access-bytes.ensures) c.put_moved-list.ensures))
