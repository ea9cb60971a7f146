-- What is left to look at decides.
use Rattle.std.proofs.Common.{◌≡◌, drop}
use Rattle.footprint.specs.Inner.Numbers.{held}
use Rattle.swap.specs.Inner.Calls.{first_of}
use Rattle.swap.proofs.search.first.Given as goal

abbrev pub invariant-loop-x : goal.invariant-loop-x
invariant-loop-x l = first_of (drop l.x-index l.x-items) (held l.fn.m) ≡ first_of (drop l.fn.from (held l.fn.l)) (held l.fn.m)
