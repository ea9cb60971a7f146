-- After i turns the first i bytes are put down.
use Rattle.std.proofs.Common.{◌≡◌, ℕ, length, ap, ◌∙◌, arith, add-one}
use Rattle.std.proofs.Math.Seq.{paste, paste-zero, paste-suc}
use Rattle.parts.proofs.bytes.put.Goals as goal

pub loop-i-init : goal.loop-i-init
loop-i-init c = paste-zero c.args.to c.args.at c.args.bytes.now

pub loop-i-preserved : goal.loop-i-preserved
loop-i-preserved c =
    let e : length c.args.to ≡ 12 = c.well_formed.0.1.0.1 in
    rw (c.loop-i.invariant, add-one)
    (paste-suc c.args.to c.args.at c.args.bytes.now c.loop-i.i 0 (omega (arith, e, c.requires.0)) (omega (arith, c.requires.1)))

pub returns : goal.returns
returns c =
    let e : c.loop-i.i ≡ c.args.n = omega arith in
    c.loop-i.invariant ∙ ap (λ (k : ℕ). paste c.args.to c.args.at c.args.bytes.now k) e
