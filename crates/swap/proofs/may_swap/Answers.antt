-- `swap::may_swap` meets its contract: each return knows what was tested before it.
use mathlib.Core.Path.{sym, ap}
use Rattle.words.specs.Inner.Meant.{meant, meant_d}
use Rattle.pieces.specs.State.{pieces}
use Rattle.pieces.proofs.Right.{sized_if}
use Rattle.swap.proofs.Calls.{named, of_array, small, unfit, first_refused, second_refused, swapping}
use Rattle.swap.proofs.may_swap.Goals as goal

pub returns-then-not-sized : goal.returns-then-not-sized
returns-then-not-sized c =
    let a = c.args in
    let s = pieces a.ds a.a a.r a.c a.vc a.v in
    unfit a.word1 a.side1 a.mask1 a.word2 a.side2 a.mask2 s c.unswapped.ensures (sym c.if-not-sized.ensures)

pub returns-in_default : goal.returns-in_default
returns-in_default c =
    let a = c.args in
    absurd (c.in_default.ensures.cases (sized_if (pieces a.ds a.a a.r a.c a.vc a.v) (sym c.if-not-sized.ensures)).a)

pub returns-in-Err : goal.returns-in-Err
returns-in-Err c =
    let a = c.args in
    let s = pieces a.ds a.a a.r a.c a.vc a.v in
    first_refused a.word1 a.side1 a.mask1 a.word2 a.side2 a.mask2 s (sym c.if-not-sized.ensures) c.decode.ensures
    (ap meant_d c.in-Err.is) c.unswapped-in-Err.ensures

pub returns-in-Err-decode : goal.returns-in-Err-decode
returns-in-Err-decode c =
    let a = c.args in
    let s = pieces a.ds a.a a.r a.c a.vc a.v in
    second_refused a.word1 a.side1 a.mask1 a.word2 a.side2 a.mask2 s (sym c.if-not-sized.ensures) c.decode.ensures
    (ap meant_d c.in-Ok.is) c.decode-2.ensures (ap meant_d c.in-Err-decode.is) c.unswapped-in-Err-decode.ensures

pub footprint-requires : goal.footprint-requires
footprint-requires c =
    let a = c.args in
    let s = pieces a.ds a.a a.r a.c a.vc a.v in
    named a.word1 a.side1 a.mask1 c.decode.ensures (ap meant_d c.in-Ok.is)

pub footprint-requires-2 : goal.footprint-requires-2
footprint-requires-2 c =
    let a = c.args in
    let s = pieces a.ds a.a a.r a.c a.vc a.v in
    named a.word2 a.side2 a.mask2 c.decode-2.ensures (ap meant_d c.in-Ok-decode.is)

pub clash-requires : goal.clash-requires
clash-requires c =
    let a = c.args in
    let s = pieces a.ds a.a a.r a.c a.vc a.v in
    (small (meant c.in-Ok.i) s (of_array (meant c.in-Ok.i) c.footprint.ensures c.in-Some.ensures.cases.same), small (meant c.in-Ok-decode.j) s (of_array (meant c.in-Ok-decode.j) c.footprint-2.ensures c.in-Some.ensures.cases.same))

pub returns : goal.returns
returns c =
    let a = c.args in
    let s = pieces a.ds a.a a.r a.c a.vc a.v in
    swapping a.word1 a.side1 a.mask1 a.word2 a.side2 a.mask2 s (sym c.if-not-sized.ensures) c.decode.ensures (ap meant_d c.in-Ok.is)
    c.decode-2.ensures (ap meant_d c.in-Ok-decode.is) (of_array (meant c.in-Ok.i) c.footprint.ensures c.in-Some.ensures.cases.same) (of_array (meant c.in-Ok-decode.j) c.footprint-2.ensures c.in-Some.ensures.cases.same) c.clash.ensures
