-- `names::show::low_high` meets its contract.
use Rattle.names.proofs.Pieces.{half_low, half_high}
use Rattle.names.proofs.show.low_high.Goals as goal

pub returns-then-w-eq0 : goal.returns-then-w-eq0
returns-then-w-eq0 c = half_low c.args.w c.if-w-eq0.true

pub returns : goal.returns
returns c = half_high c.args.w c.if-w-eq0.false
