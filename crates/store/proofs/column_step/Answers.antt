-- The step of the addresses, in lines, and a bank.
use Rattle.banks.specs.Line.{step_of}
use Rattle.store.proofs.Access.{or_step}
use Rattle.store.proofs.column_step.Goals as goal

pub returns : goal.returns
unfolding step_of
returns c = or_step _ _ c.step.ensures
