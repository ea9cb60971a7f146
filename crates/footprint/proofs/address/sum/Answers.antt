-- `footprint::address::sum` meets its contract.
use mathlib.Core.List.{[]}
use Rattle.words.specs.Table.{add_of}
use Rattle.footprint.specs.Inner.Numbers.{addressed}
use Rattle.footprint.proofs.Grown.{both, ends, cut}
use Rattle.footprint.proofs.address.sum.Goals as goal

pub returns : goal.returns
returns c =
    cut (λ f. addressed (add_of f c.args.second) []) c.cut-f.ensures.0
    (ends (both (both c.empty.ensures c.put_halves.ensures) c.put_halves-read.ensures) (both c.put_halves-2.ensures c.put_flag-list.ensures))
