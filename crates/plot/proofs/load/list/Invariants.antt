-- `plot::load::list` lists at most one line for each bank.
use Rattle.std.proofs.Common.{◌≤◌}
use Rattle.plot.proofs.load.list.Given as goal

abbrev pub invariant-loop-bank : goal.invariant-loop-bank
invariant-loop-bank l = l.n ≤ l.bank
