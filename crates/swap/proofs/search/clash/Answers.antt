-- The first search finds a clash, or the second does, or there is none.
use Rattle.swap.proofs.Calls.{clash_first, clash_second, clash_none}
use Rattle.swap.proofs.search.clash.Goals as goal

pub returns-in-Some : goal.returns-in-Some
returns-in-Some c = clash_first c.args.f c.args.g c.first.ensures c.in-Some.is

pub returns-in-Some-first : goal.returns-in-Some-first
returns-in-Some-first c = clash_second c.args.f c.args.g c.first.ensures c.in_default.is c.first-2.ensures c.in-Some-first.is

pub returns : goal.returns
returns c = clash_none c.args.f c.args.g c.first.ensures c.in_default.is c.first-2.ensures c.in_default-first.is
