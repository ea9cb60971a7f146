-- `lane::scalar::vneg_s` meets its contract.
use Rattle.signed.specs.Signed.{widen}
use Rattle.signed.proofs.Z.{passed}
use Rattle.lane.specs.Lane.{arith_lane, result}
use Rattle.lane.proofs.Operations.{negation_fits, negation_back, clip_byte}
use Rattle.lane.proofs.scalar.vneg_s.Goals as goal

pub overflow_sub-sext : goal.overflow_sub-sext
overflow_sub-sext c = rw (passed c.sext.type_inv c.sext.ensures) (negation_fits c.args.x)

pub returns : goal.returns
unfolding arith_lane result widen
returns c =
    clip_byte c.low8.ensures c.clip.type_inv c.clip.ensures (rw (passed c.sext.type_inv c.sext.ensures) (negation_back c.args.x))
