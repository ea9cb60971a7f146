-- Words of another length are refused; else the run's end, told by its number and its counts.
use Rattle.std.proofs.Common.{ap, ◌∙◌}
use Rattle.parts.specs.Words.{unworded}
use Rattle.vp1.proofs.Told.{end_unlent, end_told}
use Rattle.vp1.proofs.vp1_end.Goals as goal

pub returns-in_default : goal.returns-in_default
returns-in_default c = end_unlent c.from.result c.args.run.now c.in_default.ensures.cases c.from.ensures

pub returns : goal.returns
returns c =
    end_told c.from-2.result c.args.run.now c.in-Some.ensures.cases.long c.end-ended.result c.store.new.to c.store.ensures c.from-2.ensures c.load.result
    (c.load.ensures ∙ ap unworded c.in-Some.ensures.cases.same) c.end-ended.ensures
