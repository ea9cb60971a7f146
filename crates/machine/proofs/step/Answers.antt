-- A list of one triple says what the single call says.
use Rattle.std.proofs.Common.{ap, ◌∙◌, arith}
use Rattle.model.specs.Step.{outcome}
use Rattle.model.specs.Run.{RunOutcome}
use Rattle.model.proofs.Lists.{one_triple}
use Rattle.machine.proofs.step.Goals as goal

pub returns : goal.returns
returns c =
    ap (λ (r : RunOutcome). outcome r.number r.counts r.after) c.run-x.ensures ∙ one_triple 1 _ _ _ _ (omega arith)
