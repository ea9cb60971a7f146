-- `swap::places` meets its contract: each return knows what was tested before it.
use mathlib.Core.Path.{sym, ap}
use Rattle.words.specs.Inner.Meant.{meant, meant_d}
use Rattle.pieces.specs.State.{pieces}
use Rattle.pieces.proofs.Right.{sized_if}
use Rattle.swap.proofs.Calls.{named, of_array, small, ordered, unfit_pieces, unfit_buffer, refused, listed}
use Rattle.swap.proofs.places.Goals as goal

pub returns-then-not-sized : goal.returns-then-not-sized
returns-then-not-sized c =
    let a = c.args in
    let s = pieces a.ds a.a a.r a.c a.vc a.v in
    unfit_pieces a.word a.side a.mask s a.buffer.now c.unlisted.ensures (sym c.if-not-sized.ensures)

pub returns-then-buffer-lt22 : goal.returns-then-buffer-lt22
returns-then-buffer-lt22 c =
    let a = c.args in
    let s = pieces a.ds a.a a.r a.c a.vc a.v in
    unfit_buffer a.word a.side a.mask s a.buffer.now (sym c.if-not-sized.ensures) c.unlisted-then-buffer-lt22.ensures c.if-buffer-lt22.true

pub returns-in_default : goal.returns-in_default
returns-in_default c =
    let a = c.args in
    absurd (c.in_default.ensures.cases (sized_if (pieces a.ds a.a a.r a.c a.vc a.v) (sym c.if-not-sized.ensures)).a)

pub returns-in-Err : goal.returns-in-Err
returns-in-Err c =
    let a = c.args in
    let s = pieces a.ds a.a a.r a.c a.vc a.v in
    refused a.word a.side a.mask s a.buffer.now (sym c.if-not-sized.ensures) c.if-buffer-lt22.false c.decode.ensures
    (ap meant_d c.in-Err.is) c.unlisted-in-Err.ensures

pub footprint-requires : goal.footprint-requires
footprint-requires c =
    let a = c.args in
    let s = pieces a.ds a.a a.r a.c a.vc a.v in
    named a.word a.side a.mask c.decode.ensures (ap meant_d c.in-Ok.is)

pub report-requires : goal.report-requires
report-requires c =
    let a = c.args in
    let s = pieces a.ds a.a a.r a.c a.vc a.v in
    let i = meant c.in-Ok.i in
    (c.if-buffer-lt22.false, small i s (of_array (meant c.in-Ok.i) c.footprint.ensures c.in-Some.ensures.cases.same), ordered i s (of_array (meant c.in-Ok.i) c.footprint.ensures c.in-Some.ensures.cases.same))

pub returns-in-Ok : goal.returns-in-Ok
returns-in-Ok c =
    let a = c.args in
    let s = pieces a.ds a.a a.r a.c a.vc a.v in
    listed a.word a.side a.mask s a.buffer.now (sym c.if-not-sized.ensures) c.if-buffer-lt22.false c.decode.ensures (ap meant_d c.in-Ok.is)
    (of_array (meant c.in-Ok.i) c.footprint.ensures c.in-Some.ensures.cases.same) c.report.ensures
