-- `pieces::set_vreg` meets its contract: after i turns the first i bytes are pasted.
use Rattle.std.proofs.Common.{◌≡◌, ◌*◌, ◌∙◌, length, take, sym, add-one, arith, rules}
use lib.Seq.{sets-eq, paste-zero, paste-suc}
use Rattle.pieces.specs.Inner.Regs.{with_vreg}
use Rattle.pieces.proofs.set_vreg.Goals as goal

pub loop-i-init : goal.loop-i-init
loop-i-init c = paste-zero c.args.v.now (16 * c.args.n) c.args.x

pub loop-i-preserved : goal.loop-i-preserved
loop-i-preserved c =
    let a = c.args in
    let h : length a.x ≡ 16 = search rules in
    rw (c.loop-i.invariant, add-one) (paste-suc a.v.now (16 * a.n) a.x c.loop-i.i 0 (omega arith) (omega arith))

pub returns : goal.returns
unfolding with_vreg
returns c =
    let u = take 16 c.args.x in
    let e : length u ≡ 16 = search rules in
    let i : c.loop-i.i ≡ 16 = omega arith in
    (rw i at c.loop-i.invariant) ∙ sym (sets-eq u c.args.v.now (16 * c.args.n) (omega (arith, e)) ∙ (rw e))
