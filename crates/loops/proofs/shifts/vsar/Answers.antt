-- `loops::shifts::vsar` meets its contract.
use Rattle.std.proofs.Common.{rules, true}
use Rattle.loops.proofs.shifts.vsar.Goals as goal

pub returns : goal.returns
returns c = c.shift.ensures true (λ x y r u v p. search rules)
