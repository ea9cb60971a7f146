-- `names::line::Line::put_last` meets its contract.
use mathlib.Core.Path.{sym}
use mathlib.Core.List.{append-nil}
use native.Mathlib.Omega.{arith}
use borrow.Author.Tests.{lt-ltb, le-ltb}
use Rattle.names.specs.Inner.Code.{last_of}
use Rattle.names.proofs.line.Line.put_last.Goals as goal

pub returns-then-p-ge256 : goal.returns-then-p-ge256
unfolding last_of
returns-then-p-ge256 c = (omega (arith, c.push.ensures.0), rw (le-ltb c.args.p 256 c.if-p-ge256.true) c.push.ensures.1)

pub returns-else-p-ge256 : goal.returns-else-p-ge256
unfolding last_of
returns-else-p-ge256 c = (omega arith, rw (lt-ltb c.args.p 256 (omega arith)) (sym (append-nil _)))
