-- `footprint::address::aadd` meets its contract.
use mathlib.Core.List.{[]}
use Rattle.words.specs.Table.{aadd_of}
use Rattle.footprint.specs.Inner.Numbers.{addressed}
use Rattle.footprint.proofs.Grown.{ends, cut}
use Rattle.footprint.proofs.address.aadd.Goals as goal

pub returns : goal.returns
returns c = cut (λ f. addressed (aadd_of f c.args.side) []) c.cut-f.ensures.0 (ends c.moving-read.ensures c.put_moved-list.ensures)
