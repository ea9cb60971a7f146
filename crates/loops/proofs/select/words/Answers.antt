-- `loops::select::words` meets its contract.
use Rattle.std.proofs.Common.{rules}
use Rattle.lanes.proofs.FromFn.{from_fn_gives}
use Rattle.loops.proofs.select.words.Goals as goal

pub returns : goal.returns
returns c = from_fn_gives c.from_fn.ensures.items _ (λ i y f' l p. search rules)
