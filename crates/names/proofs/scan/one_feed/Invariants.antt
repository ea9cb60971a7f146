-- `names::scan::one_feed` meets its contract: what is left of the text decides.
use mathlib.Core.Path.{◌≡◌}
use lib.ListN.{drop}
use Rattle.names.specs.Calls.{one_feed}
use Rattle.names.proofs.scan.one_feed.Given as goal

abbrev pub invariant-loop-i : goal.invariant-loop-i
invariant-loop-i l = one_feed (drop l.i l.text) ≡ one_feed l.text
