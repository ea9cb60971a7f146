-- What each answer stands for: document 01's number, what is counted, and with the six pieces the outcome of the call.
use Rattle.terms.specs.Answers.{number}
use Rattle.pieces.specs.State.{State}
use Rattle.model.specs.Step.{Outcome, outcome}
use Rattle.model.specs.Run.{RunOutcome, ended}
use Rattle.machine.specs.declared.Stepped.{Stepped}
use Rattle.machine.specs.declared.Ran.{Ran}

-- the single call
abbrev pub step_outcome : Stepped → State → Outcome
step_outcome x s = outcome (number x.end) x.counts s

-- the list call
abbrev pub run_outcome : Ran → State → RunOutcome
run_outcome x s = ended (number x.end) x.steps x.counts s
