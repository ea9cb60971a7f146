-- `loops::shifts::vshr` meets its contract.
use Rattle.std.proofs.Common.{rules, false}
use Rattle.loops.proofs.shifts.vshr.Goals as goal

pub returns : goal.returns
returns c = c.shift.ensures false (λ x y r u v p. search rules)
