-- `footprint::list::put_flags` meets its contract.
use native.Mathlib.Omega.{arith}
use Rattle.footprint.proofs.Grown.{one, both, is_written, not_written}
use Rattle.footprint.proofs.list.put_flags.Goals as goal

pub returns-then-vcdst-lt4 : goal.returns-then-vcdst-lt4
returns-then-vcdst-lt4 c =
    is_written c.args.vcdst c.if-vcdst-lt4.true
    (both (one _ _ c.push.ensures (omega arith)) (one _ _ c.push-then-vcdst-lt4.ensures (omega arith)))

pub returns-else-vcdst-lt4 : goal.returns-else-vcdst-lt4
returns-else-vcdst-lt4 c = not_written c.args.vcdst _ c.if-vcdst-lt4.false
