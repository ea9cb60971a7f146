-- `footprint::list::put_flag` meets its contract.
use native.Mathlib.Omega.{arith}
use Rattle.footprint.proofs.Grown.{one, is_written, not_written}
use Rattle.footprint.proofs.list.put_flag.Goals as goal

pub returns-then-cdst-lt4 : goal.returns-then-cdst-lt4
returns-then-cdst-lt4 c = is_written c.args.cdst c.if-cdst-lt4.true (one _ _ c.push.ensures (omega (arith, c.side.ensures)))

pub returns-else-cdst-lt4 : goal.returns-else-cdst-lt4
returns-else-cdst-lt4 c = not_written c.args.cdst _ c.if-cdst-lt4.false
