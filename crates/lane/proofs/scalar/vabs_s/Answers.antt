-- `lane::scalar::vabs_s` meets its contract.
use Rattle.lane.proofs.Operations.{abs_signed}
use Rattle.lane.proofs.Biased.{signed_back}
use Rattle.lane.proofs.scalar.vabs_s.Goals as goal

pub returns : goal.returns
returns c = rw (c.min.ensures, c.unsigned_abs.ensures.value, signed_back c.args.x c.ranges.x.fits c.cast_signed.ensures) (abs_signed c.args.x)
