-- What the word decodes to is refused, or each arm's function leaves what the model says of the instruction that its case means.
use Rattle.std.proofs.Common.{rules, refl, ap, ◌∙◌, sym}
use Rattle.words.specs.Inner.Bounded.{BoundedA}
use Rattle.words.specs.Inner.Meant.{meant, meant_d}
use Rattle.words.specs.Decoded as D
use Rattle.std.specs.declared.result.Result.{Result}
use Rattle.terms.specs.declared.Counted.{Counted}
use Rattle.terms.specs.declared.Refusal.{Refusal}
use Rattle.address.specs.Inner.Effect.{addressed, counted_in}
use Rattle.ports.specs.Inner.Ports as P
use Rattle.vector.specs.Inner.Effect as U
use Rattle.pieces.specs.State.{state}
use Rattle.units.specs.Inner.Answers.{answered}
use Rattle.units.proofs.Units.{by_row}
use Rattle.units.proofs.Arms.{row, refusal_on, there, of_nop, of_vector, of_address, of_load, just_a, a_and_c, but_r, but_v, just_a_lent, a_and_c_lent, but_r_lent, but_v_lent}
use Rattle.units.proofs.triple.Goals as goal

pub returns-in_default : goal.returns-in_default
returns-in_default c =
    let s = state c.args.ds.now c.args.a.now c.args.r.now c.args.c.now c.args.vc.now c.args.v.now in
    ap (λ (x : Result Counted Refusal). answered x s) (refusal_on _ c.in_default.is c.map.ensures.cases)
    ∙ by_row c.args.word c.args.side c.args.mask s (D.Refused c.in_default.field-0) (ap meant_d (sym c.in_default.is) ∙ c.decode-d.ensures)

pub returns-in-VminS : goal.returns-in-VminS
unfolding meant
returns-in-VminS c =
    of_vector (state c.args.ds.now c.args.a.now c.args.r.now c.args.c.now c.args.vc.now c.args.v.now)
    (row c.decode-d.ensures c.in-Ok.is c.in-VminS.is) c.vmin_s.ensures

pub returns-in-VmaxS : goal.returns-in-VmaxS
unfolding meant
returns-in-VmaxS c =
    of_vector (state c.args.ds.now c.args.a.now c.args.r.now c.args.c.now c.args.vc.now c.args.v.now)
    (row c.decode-d.ensures c.in-Ok.is c.in-VmaxS.is) c.vmax_s.ensures

pub returns-in-VabsS : goal.returns-in-VabsS
unfolding meant
returns-in-VabsS c =
    of_vector (state c.args.ds.now c.args.a.now c.args.r.now c.args.c.now c.args.vc.now c.args.v.now)
    (row c.decode-d.ensures c.in-Ok.is c.in-VabsS.is) c.vabs_s.ensures

pub returns-in-VnegS : goal.returns-in-VnegS
unfolding meant
returns-in-VnegS c =
    of_vector (state c.args.ds.now c.args.a.now c.args.r.now c.args.c.now c.args.vc.now c.args.v.now)
    (row c.decode-d.ensures c.in-Ok.is c.in-VnegS.is) c.vneg_s.ensures

pub returns-in-VaddS : goal.returns-in-VaddS
unfolding meant
returns-in-VaddS c =
    of_vector (state c.args.ds.now c.args.a.now c.args.r.now c.args.c.now c.args.vc.now c.args.v.now)
    (row c.decode-d.ensures c.in-Ok.is c.in-VaddS.is) c.vadd_s.ensures

pub returns-in-VsubS : goal.returns-in-VsubS
unfolding meant
returns-in-VsubS c =
    of_vector (state c.args.ds.now c.args.a.now c.args.r.now c.args.c.now c.args.vc.now c.args.v.now)
    (row c.decode-d.ensures c.in-Ok.is c.in-VsubS.is) c.vsub_s.ensures

pub returns-in-Vsar : goal.returns-in-Vsar
unfolding meant
returns-in-Vsar c =
    of_vector (state c.args.ds.now c.args.a.now c.args.r.now c.args.c.now c.args.vc.now c.args.v.now)
    (row c.decode-d.ensures c.in-Ok.is c.in-Vsar.is) c.vsar.ensures

pub returns-in-Vcmpad : goal.returns-in-Vcmpad
unfolding meant
returns-in-Vcmpad c =
    of_vector (state c.args.ds.now c.args.a.now c.args.r.now c.args.c.now c.args.vc.now c.args.v.now)
    (row c.decode-d.ensures c.in-Ok.is c.in-Vcmpad.is) c.vcmpad.ensures

pub returns-in-Vbitop : goal.returns-in-Vbitop
unfolding meant
returns-in-Vbitop c =
    of_vector (state c.args.ds.now c.args.a.now c.args.r.now c.args.c.now c.args.vc.now c.args.v.now)
    (row c.decode-d.ensures c.in-Ok.is c.in-Vbitop.is) c.vbitop.ensures

pub returns-in-VminU : goal.returns-in-VminU
unfolding meant
returns-in-VminU c =
    of_vector (state c.args.ds.now c.args.a.now c.args.r.now c.args.c.now c.args.vc.now c.args.v.now)
    (row c.decode-d.ensures c.in-Ok.is c.in-VminU.is) c.vmin_u.ensures

pub returns-in-VmaxU : goal.returns-in-VmaxU
unfolding meant
returns-in-VmaxU c =
    of_vector (state c.args.ds.now c.args.a.now c.args.r.now c.args.c.now c.args.vc.now c.args.v.now)
    (row c.decode-d.ensures c.in-Ok.is c.in-VmaxU.is) c.vmax_u.ensures

pub returns-in-VabsU : goal.returns-in-VabsU
unfolding meant
returns-in-VabsU c =
    of_vector (state c.args.ds.now c.args.a.now c.args.r.now c.args.c.now c.args.vc.now c.args.v.now)
    (row c.decode-d.ensures c.in-Ok.is c.in-VabsU.is) c.vabs_u.ensures

pub returns-in-Vswz : goal.returns-in-Vswz
unfolding meant U.result_of U.vectored U.counted_of
returns-in-Vswz c =
    of_vector (state c.args.ds.now c.args.a.now c.args.r.now c.args.c.now c.args.vc.now c.args.v.now)
    (row c.decode-d.ensures c.in-Ok.is c.in-Vswz.is)
    (ap (λ (z : P.Result). P.result_from z.counted (P.vectors c.args.vc.now z.after.v)) c.vswz.ensures)

pub returns-in-VaddU : goal.returns-in-VaddU
unfolding meant
returns-in-VaddU c =
    of_vector (state c.args.ds.now c.args.a.now c.args.r.now c.args.c.now c.args.vc.now c.args.v.now)
    (row c.decode-d.ensures c.in-Ok.is c.in-VaddU.is) c.vadd_u.ensures

pub returns-in-VsubU : goal.returns-in-VsubU
unfolding meant
returns-in-VsubU c =
    of_vector (state c.args.ds.now c.args.a.now c.args.r.now c.args.c.now c.args.vc.now c.args.v.now)
    (row c.decode-d.ensures c.in-Ok.is c.in-VsubU.is) c.vsub_u.ensures

pub returns-in-Vshr : goal.returns-in-Vshr
unfolding meant
returns-in-Vshr c =
    of_vector (state c.args.ds.now c.args.a.now c.args.r.now c.args.c.now c.args.vc.now c.args.v.now)
    (row c.decode-d.ensures c.in-Ok.is c.in-Vshr.is) c.vshr.ensures

pub returns-in-Vadd9 : goal.returns-in-Vadd9
unfolding meant
returns-in-Vadd9 c =
    of_vector (state c.args.ds.now c.args.a.now c.args.r.now c.args.c.now c.args.vc.now c.args.v.now)
    (row c.decode-d.ensures c.in-Ok.is c.in-Vadd9.is) c.vadd9.ensures

pub returns-in-Vclip : goal.returns-in-Vclip
unfolding meant
returns-in-Vclip c =
    of_vector (state c.args.ds.now c.args.a.now c.args.r.now c.args.c.now c.args.vc.now c.args.v.now)
    (row c.decode-d.ensures c.in-Ok.is c.in-Vclip.is) c.vclip.ensures

pub returns-in-Vminabs : goal.returns-in-Vminabs
unfolding meant
returns-in-Vminabs c =
    of_vector (state c.args.ds.now c.args.a.now c.args.r.now c.args.c.now c.args.vc.now c.args.v.now)
    (row c.decode-d.ensures c.in-Ok.is c.in-Vminabs.is) c.vminabs.ensures

pub returns-in-Vand : goal.returns-in-Vand
unfolding meant
returns-in-Vand c =
    of_vector (state c.args.ds.now c.args.a.now c.args.r.now c.args.c.now c.args.vc.now c.args.v.now)
    (row c.decode-d.ensures c.in-Ok.is c.in-Vand.is) c.vand.ensures

pub returns-in-Vxor : goal.returns-in-Vxor
unfolding meant
returns-in-Vxor c =
    of_vector (state c.args.ds.now c.args.a.now c.args.r.now c.args.c.now c.args.vc.now c.args.v.now)
    (row c.decode-d.ensures c.in-Ok.is c.in-Vxor.is) c.vxor.ensures

pub returns-in-Vmov : goal.returns-in-Vmov
unfolding meant
returns-in-Vmov c =
    of_vector (state c.args.ds.now c.args.a.now c.args.r.now c.args.c.now c.args.vc.now c.args.v.now)
    (row c.decode-d.ensures c.in-Ok.is c.in-Vmov.is) c.vmov.ensures

pub returns-in-Vor : goal.returns-in-Vor
unfolding meant
returns-in-Vor c =
    of_vector (state c.args.ds.now c.args.a.now c.args.r.now c.args.c.now c.args.vc.now c.args.v.now)
    (row c.decode-d.ensures c.in-Ok.is c.in-Vor.is) c.vor.ensures

pub returns-in-Mov : goal.returns-in-Mov
unfolding meant
returns-in-Mov c =
    of_vector (state c.args.ds.now c.args.a.now c.args.r.now c.args.c.now c.args.vc.now c.args.v.now)
    (row c.decode-d.ensures c.in-Ok.is c.in-Mov.is) c.mov.ensures

pub returns-in-MovVc : goal.returns-in-MovVc
unfolding meant
returns-in-MovVc c =
    of_vector (state c.args.ds.now c.args.a.now c.args.r.now c.args.c.now c.args.vc.now c.args.v.now)
    (row c.decode-d.ensures c.in-Ok.is c.in-MovVc.is) c.mov_vc.ensures

pub returns-in-Nop : goal.returns-in-Nop
unfolding meant
returns-in-Nop c = of_nop (state c.args.ds.now c.args.a.now c.args.r.now c.args.c.now c.args.vc.now c.args.v.now) (row c.decode-d.ensures c.in-Ok.is c.in-Nop.is)

pub ldavh-requires : goal.ldavh-requires
unfolding meant BoundedA
ldavh-requires c = (there (row c.decode-d.ensures c.in-Ok.is c.in-Ldavh.is)).2

pub returns-in-Ldavh : goal.returns-in-Ldavh
unfolding meant addressed counted_in
returns-in-Ldavh c =
    let s = state c.args.ds.now c.args.a.now c.args.r.now c.args.c.now c.args.vc.now c.args.v.now in
    of_address s (but_r s) (but_r_lent s)
    (row c.decode-d.ensures c.in-Ok.is c.in-Ldavh.is) c.ldavh.ensures refl refl

pub ldavv-requires : goal.ldavv-requires
unfolding meant BoundedA
ldavv-requires c = (there (row c.decode-d.ensures c.in-Ok.is c.in-Ldavv.is)).2

pub returns-in-Ldavv : goal.returns-in-Ldavv
unfolding meant addressed counted_in
returns-in-Ldavv c =
    let s = state c.args.ds.now c.args.a.now c.args.r.now c.args.c.now c.args.vc.now c.args.v.now in
    of_address s (but_r s) (but_r_lent s)
    (row c.decode-d.ensures c.in-Ok.is c.in-Ldavv.is) c.ldavv.ensures refl refl

pub ldas-requires : goal.ldas-requires
unfolding meant BoundedA
ldas-requires c = (there (row c.decode-d.ensures c.in-Ok.is c.in-Ldas.is)).2

pub returns-in-Ldas : goal.returns-in-Ldas
unfolding meant addressed counted_in
returns-in-Ldas c =
    let s = state c.args.ds.now c.args.a.now c.args.r.now c.args.c.now c.args.vc.now c.args.v.now in
    of_address s (but_v s) (but_v_lent s)
    (row c.decode-d.ensures c.in-Ok.is c.in-Ldas.is) c.ldas.ensures refl refl

pub stavh-requires : goal.stavh-requires
unfolding meant BoundedA
stavh-requires c = (there (row c.decode-d.ensures c.in-Ok.is c.in-Stavh.is)).2

pub returns-in-Stavh : goal.returns-in-Stavh
unfolding meant addressed counted_in
returns-in-Stavh c =
    let s = state c.args.ds.now c.args.a.now c.args.r.now c.args.c.now c.args.vc.now c.args.v.now in
    of_address s (but_r s) (but_r_lent s)
    (row c.decode-d.ensures c.in-Ok.is c.in-Stavh.is) c.stavh.ensures refl refl

pub stavv-requires : goal.stavv-requires
unfolding meant BoundedA
stavv-requires c = (there (row c.decode-d.ensures c.in-Ok.is c.in-Stavv.is)).2

pub returns-in-Stavv : goal.returns-in-Stavv
unfolding meant addressed counted_in
returns-in-Stavv c =
    let s = state c.args.ds.now c.args.a.now c.args.r.now c.args.c.now c.args.vc.now c.args.v.now in
    of_address s (but_r s) (but_r_lent s)
    (row c.decode-d.ensures c.in-Ok.is c.in-Stavv.is) c.stavv.ensures refl refl

pub stas-requires : goal.stas-requires
unfolding meant BoundedA
stas-requires c = (there (row c.decode-d.ensures c.in-Ok.is c.in-Stas.is)).2

pub returns-in-Stas : goal.returns-in-Stas
unfolding meant addressed counted_in
returns-in-Stas c =
    let s = state c.args.ds.now c.args.a.now c.args.r.now c.args.c.now c.args.vc.now c.args.v.now in
    of_address s (but_v s) (but_v_lent s)
    (row c.decode-d.ensures c.in-Ok.is c.in-Stas.is) c.stas.ensures refl refl

pub aadd-requires : goal.aadd-requires
unfolding meant BoundedA
aadd-requires c = (there (row c.decode-d.ensures c.in-Ok.is c.in-Aadd.is)).1

pub returns-in-Aadd : goal.returns-in-Aadd
unfolding meant addressed counted_in
returns-in-Aadd c =
    let s = state c.args.ds.now c.args.a.now c.args.r.now c.args.c.now c.args.vc.now c.args.v.now in
    of_address s (a_and_c s) (a_and_c_lent s)
    (row c.decode-d.ensures c.in-Ok.is c.in-Aadd.is) c.aadd.ensures refl refl

pub add-requires : goal.add-requires
unfolding meant BoundedA
add-requires c = (there (row c.decode-d.ensures c.in-Ok.is c.in-Add.is)).2

pub returns-in-Add : goal.returns-in-Add
unfolding meant addressed counted_in
returns-in-Add c =
    let s = state c.args.ds.now c.args.a.now c.args.r.now c.args.c.now c.args.vc.now c.args.v.now in
    of_address s (a_and_c s) (a_and_c_lent s)
    (row c.decode-d.ensures c.in-Ok.is c.in-Add.is) c.add.ensures refl refl

pub returns-in-Setlo : goal.returns-in-Setlo
unfolding meant addressed counted_in
returns-in-Setlo c =
    let s = state c.args.ds.now c.args.a.now c.args.r.now c.args.c.now c.args.vc.now c.args.v.now in
    of_address s (just_a s) (just_a_lent s)
    (row c.decode-d.ensures c.in-Ok.is c.in-Setlo.is) c.setlo.ensures refl refl

pub returns-in-Sethi : goal.returns-in-Sethi
unfolding meant addressed counted_in
returns-in-Sethi c =
    let s = state c.args.ds.now c.args.a.now c.args.r.now c.args.c.now c.args.vc.now c.args.v.now in
    of_address s (just_a s) (just_a_lent s)
    (row c.decode-d.ensures c.in-Ok.is c.in-Sethi.is) c.sethi.ensures refl refl

pub returns-in-Bitop : goal.returns-in-Bitop
unfolding meant addressed counted_in
returns-in-Bitop c =
    let s = state c.args.ds.now c.args.a.now c.args.r.now c.args.c.now c.args.vc.now c.args.v.now in
    of_address s (a_and_c s) (a_and_c_lent s)
    (row c.decode-d.ensures c.in-Ok.is c.in-Bitop.is) c.bitop.ensures refl refl

pub returns-in-Ldvh : goal.returns-in-Ldvh
unfolding meant addressed counted_in
returns-in-Ldvh c =
    of_load (state c.args.ds.now c.args.a.now c.args.r.now c.args.c.now c.args.vc.now c.args.v.now)
    (row c.decode-d.ensures c.in-Ok.is c.in-Ldvh.is) (search rules) refl refl

pub returns-in-Ldvv : goal.returns-in-Ldvv
unfolding meant addressed counted_in
returns-in-Ldvv c =
    of_load (state c.args.ds.now c.args.a.now c.args.r.now c.args.c.now c.args.vc.now c.args.v.now)
    (row c.decode-d.ensures c.in-Ok.is c.in-Ldvv.is) (search rules) refl refl

pub returns-in-Lds : goal.returns-in-Lds
unfolding meant addressed counted_in
returns-in-Lds c =
    let s = state c.args.ds.now c.args.a.now c.args.r.now c.args.c.now c.args.vc.now c.args.v.now in
    of_address s (but_v s) (but_v_lent s)
    (row c.decode-d.ensures c.in-Ok.is c.in-Lds.is) c.lds.ensures refl refl

pub returns-in-Stvh : goal.returns-in-Stvh
unfolding meant addressed counted_in
returns-in-Stvh c =
    let s = state c.args.ds.now c.args.a.now c.args.r.now c.args.c.now c.args.vc.now c.args.v.now in
    of_address s (but_r s) (but_r_lent s)
    (row c.decode-d.ensures c.in-Ok.is c.in-Stvh.is) c.stvh.ensures refl refl

pub returns-in-Stvv : goal.returns-in-Stvv
unfolding meant addressed counted_in
returns-in-Stvv c =
    let s = state c.args.ds.now c.args.a.now c.args.r.now c.args.c.now c.args.vc.now c.args.v.now in
    of_address s (but_r s) (but_r_lent s)
    (row c.decode-d.ensures c.in-Ok.is c.in-Stvv.is) c.stvv.ensures refl refl

pub returns-in-Sts : goal.returns-in-Sts
unfolding meant addressed counted_in
returns-in-Sts c =
    let s = state c.args.ds.now c.args.a.now c.args.r.now c.args.c.now c.args.vc.now c.args.v.now in
    of_address s (but_v s) (but_v_lent s)
    (row c.decode-d.ensures c.in-Ok.is c.in-Sts.is) c.sts.ensures refl refl
