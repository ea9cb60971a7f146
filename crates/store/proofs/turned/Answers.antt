-- Each place is picked by its number, moved on and cut to four bits.
use Rattle.store.specs.Inner.Steps.{upto}
use Rattle.store.proofs.Rows.{turn_is}
use Rattle.store.proofs.turned.Goals as goal

pub returns : goal.returns
unfolding upto
returns c = turn_is c.args.x c.args.by c.requires
