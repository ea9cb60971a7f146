-- `lane::scalar::vsub_s` meets its contract.
use Rattle.std.proofs.Common.{◌-ℤ◌}
use Rattle.signed.specs.Signed.{widen}
use Rattle.lane.specs.Lane.{arith_lane, result}
use Rattle.lane.proofs.Operations.{difference_fits, passed_fits, passed_back, clip_byte}
use Rattle.lane.proofs.scalar.vsub_s.Goals as goal

pub overflow_sub-sext : goal.overflow_sub-sext
overflow_sub-sext c = let a = c.sext in let b = c.sext-2 in passed_fits ◌-ℤ◌ difference_fits _ _ a.type_inv a.ensures b.type_inv b.ensures

pub returns : goal.returns
unfolding arith_lane result widen
returns c =
    let a = c.sext in let b = c.sext-2 in
    clip_byte c.low8.ensures c.clip.type_inv c.clip.ensures (passed_back ◌-ℤ◌ difference_fits _ _ a.type_inv a.ensures b.type_inv b.ensures)
