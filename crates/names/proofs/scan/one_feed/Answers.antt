-- `names::scan::one_feed` meets its contract: what is left of the text decides.
use mathlib.Core.Path.{◌∙◌, sym}
use native.Mathlib.Omega.{arith}
use Rattle.names.proofs.Scans.{feed_here, feed_on, feed_end}
use Rattle.names.proofs.scan.one_feed.Goals as goal

pub returns-then-b-eq10 : goal.returns-then-b-eq10
returns-then-b-eq10 c = sym (feed_here c.args.text.now c.loop-i.i (omega arith) c.if-b-eq10.true) ∙ c.loop-i.invariant

pub loop-i-preserved : goal.loop-i-preserved
loop-i-preserved c = sym (feed_on c.args.text.now c.loop-i.i (omega arith) c.if-b-eq10.false) ∙ c.loop-i.invariant

pub returns : goal.returns
returns c = sym (feed_end c.args.text.now c.loop-i.i (omega arith)) ∙ c.loop-i.invariant
