-- `lane::clamp::size` meets its contract.
use Rattle.std.proofs.Common.{ap, ◌∙◌, nat_abs}
use Rattle.lane.proofs.Biased.{signed_back}
use Rattle.lane.proofs.clamp.size.Goals as goal

pub returns : goal.returns
returns c = c.unsigned_abs.ensures.value ∙ ap nat_abs (signed_back c.args.x c.ranges.x.fits c.cast_signed.ensures)
