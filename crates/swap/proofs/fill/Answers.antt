-- The numbers stand at the start of the buffer.
use Rattle.std.proofs.Common.{rules, ◌≡◌, ap₂, sym, ◌∙◌, ℕ, ◌+◌, List, ◌++◌, length, drop, length-take-le, arith}
use Rattle.std.proofs.Math.Seq.{sets-eq}
use Rattle.footprint.specs.Inner.Numbers.{held}
use Rattle.swap.proofs.fill.Goals as goal

pub returns : goal.returns
returns c =
    let b = c.args.buffer.now in
    let full : length c.args.l.numbers ≡ 22 = search rules in
    let e : c.args.l.count ≡ 0 + length (held c.args.l) = omega (arith, length-take-le c.args.l.count c.args.l.numbers (omega (arith, full, c.requires.1))) in
    ap₂ (λ (xs : List ℕ) (k : ℕ). xs ++ drop k b) (c.copy_from_slice.ensures.after ∙ c.held.ensures) e
    ∙ sym (sets-eq (held c.args.l) b 0 (omega (arith, e, c.requires)))
