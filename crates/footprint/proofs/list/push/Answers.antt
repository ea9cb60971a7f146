-- `footprint::list::push` meets its contract.
use mathlib.Core.Path.{refl}
use borrow.Author.Tests.{lt-ltb, le-ltb}
use Rattle.footprint.specs.Inner.Numbers.{push}
use Rattle.footprint.proofs.list.push.Goals as goal

pub returns-then-at-lt22 : goal.returns-then-at-lt22
unfolding push
returns-then-at-lt22 c = rw (lt-ltb c.args.l.count 22 c.if-at-lt22.true) refl

pub returns : goal.returns
unfolding push
returns c = rw (le-ltb c.args.l.count 22 c.if-at-lt22.false) refl
