-- `lane::scalar::vadd_s` meets its contract.
use Rattle.std.proofs.Common.{◌+ℤ◌}
use Rattle.signed.specs.Signed.{widen}
use Rattle.lane.specs.Lane.{arith_lane, result}
use Rattle.lane.proofs.Operations.{sum_fits, passed_fits, passed_back, clip_byte}
use Rattle.lane.proofs.scalar.vadd_s.Goals as goal

pub overflow_add-sext : goal.overflow_add-sext
overflow_add-sext c = let a = c.sext in let b = c.sext-2 in passed_fits ◌+ℤ◌ sum_fits _ _ a.type_inv a.ensures b.type_inv b.ensures

pub returns : goal.returns
unfolding arith_lane result widen
returns c =
    let a = c.sext in let b = c.sext-2 in
    clip_byte c.low8.ensures c.clip.type_inv c.clip.ensures (passed_back ◌+ℤ◌ sum_fits _ _ a.type_inv a.ensures b.type_inv b.ensures)
