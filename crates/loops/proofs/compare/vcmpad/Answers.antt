-- `loops::compare::vcmpad` meets its contract.
use Rattle.std.proofs.Common.{rules, cond, ltb, bit_xor}
use Rattle.lane.specs.Lane.{apart}
use Rattle.loops.proofs.Compared.{compared}
use Rattle.loops.proofs.compare.vcmpad.Goals as goal

pub returns : goal.returns
returns c =
    compared _ _ _ _ _ (c.each-d.ensures apart (λ x y r u v p. search rules)) (c.each-differ.ensures bit_xor (λ x y r u v p. search rules))
    (c.each-less.ensures (λ x y. cond (ltb x y) 255 0) (λ x y r u v p. search rules)) c.flags-w.ensures (cc)
