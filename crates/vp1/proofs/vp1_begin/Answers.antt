-- Words of another length are refused; else a new run, in its words.
use Rattle.vp1.proofs.Told.{begin_unlent, begin_told}
use Rattle.vp1.proofs.vp1_begin.Goals as goal

pub returns-in_default : goal.returns-in_default
returns-in_default c = begin_unlent c.from.result c.args.run.now c.in_default.ensures.cases c.from.ensures c.args.budget

pub returns : goal.returns
returns c =
    begin_told c.from-2.result c.args.run.now c.in-Some.ensures.cases.long c.begin.result c.store.new.to c.store.ensures c.args.budget c.begin.ensures
    c.from-2.ensures
