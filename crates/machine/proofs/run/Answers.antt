-- A length is wrong, each in its turn; or the words are no whole triples; or `turns` does the rest.
use Rattle.std.proofs.Common.{refl}
use Rattle.machine.proofs.Start.{as_it_was, unfit, ragged, begun}
use Rattle.machine.proofs.run.Goals as goal

pub returns-in_default : goal.returns-in_default
returns-in_default c =
    unfit _ _ (as_it_was refl refl refl refl refl refl)
    c.report-refused.ensures c.unfit.ensures c.default.ensures (λ h. c.in_default.ensures.cases h.ds)

pub returns-in_default-as_mut_array : goal.returns-in_default-as_mut_array
returns-in_default-as_mut_array c =
    unfit _ _ (as_it_was c.in-Some.ensures.cases.same refl refl refl refl refl)
    c.report-refused.ensures c.unfit.ensures c.default.ensures (λ h. c.in_default-as_mut_array.ensures.cases h.a)

pub returns-in_default-as_mut_array-2 : goal.returns-in_default-as_mut_array-2
returns-in_default-as_mut_array-2 c =
    unfit _ _ (as_it_was c.in-Some.ensures.cases.same c.in-Some-as_mut_array.ensures.cases.same refl refl refl refl)
    c.report-refused.ensures c.unfit.ensures c.default.ensures (λ h. c.in_default-as_mut_array-2.ensures.cases h.r)

pub returns-in_default-as_mut_array-3 : goal.returns-in_default-as_mut_array-3
returns-in_default-as_mut_array-3 c =
    unfit _ _ (as_it_was c.in-Some.ensures.cases.same c.in-Some-as_mut_array.ensures.cases.same c.in-Some-as_mut_array-2.ensures.cases.same refl refl refl)
    c.report-refused.ensures c.unfit.ensures c.default.ensures (λ h. c.in_default-as_mut_array-3.ensures.cases h.c)

pub returns-in_default-as_mut_array-4 : goal.returns-in_default-as_mut_array-4
returns-in_default-as_mut_array-4 c =
    unfit _ _ (as_it_was c.in-Some.ensures.cases.same c.in-Some-as_mut_array.ensures.cases.same c.in-Some-as_mut_array-2.ensures.cases.same c.in-Some-as_mut_array-3.ensures.cases.same refl refl)
    c.report-refused.ensures c.unfit.ensures c.default.ensures (λ h. c.in_default-as_mut_array-4.ensures.cases h.vc)

pub returns-in_default-as_mut_array-5 : goal.returns-in_default-as_mut_array-5
returns-in_default-as_mut_array-5 c =
    unfit _ _ (as_it_was c.in-Some.ensures.cases.same c.in-Some-as_mut_array.ensures.cases.same c.in-Some-as_mut_array-2.ensures.cases.same c.in-Some-as_mut_array-3.ensures.cases.same c.in-Some-as_mut_array-4.ensures.cases.same refl)
    c.report-refused.ensures c.unfit.ensures c.default.ensures (λ h. c.in_default-as_mut_array-5.ensures.cases h.v)

pub returns-then-words-ne0 : goal.returns-then-words-ne0
returns-then-words-ne0 c =
    ragged _ _ (as_it_was c.in-Some.ensures.cases.same c.in-Some-as_mut_array.ensures.cases.same c.in-Some-as_mut_array-2.ensures.cases.same c.in-Some-as_mut_array-3.ensures.cases.same c.in-Some-as_mut_array-4.ensures.cases.same c.in-Some-as_mut_array-5.ensures.cases.same)
    c.report.ensures c.unfit-then-words-ne0.ensures c.default-then-words-ne0.ensures (record { ds = c.in-Some.ensures.cases.long; a = c.in-Some-as_mut_array.ensures.cases.long; r = c.in-Some-as_mut_array-2.ensures.cases.long; c = c.in-Some-as_mut_array-3.ensures.cases.long; vc = c.in-Some-as_mut_array-4.ensures.cases.long; v = c.in-Some-as_mut_array-5.ensures.cases.long }) c.if-words-ne0.true

pub returns : goal.returns
returns c =
    begun _ _ (as_it_was c.in-Some.ensures.cases.same c.in-Some-as_mut_array.ensures.cases.same c.in-Some-as_mut_array-2.ensures.cases.same c.in-Some-as_mut_array-3.ensures.cases.same c.in-Some-as_mut_array-4.ensures.cases.same c.in-Some-as_mut_array-5.ensures.cases.same)
    c.turns.ensures (record { ds = c.in-Some.ensures.cases.long; a = c.in-Some-as_mut_array.ensures.cases.long; r = c.in-Some-as_mut_array-2.ensures.cases.long; c = c.in-Some-as_mut_array-3.ensures.cases.long; vc = c.in-Some-as_mut_array-4.ensures.cases.long; v = c.in-Some-as_mut_array-5.ensures.cases.long }) c.if-words-ne0.false
