-- `loops::each::each` meets its contract.
use Rattle.std.proofs.Common.{rules, get_or}
use Rattle.lanes.proofs.FromFn.{from_fn_gives}
use Rattle.loops.proofs.each.each.Goals as goal

pub returns : goal.returns
returns g c h e =
    from_fn_gives c.from_fn.ensures.items (λ i. h (get_or c.args.a i 0) (get_or c.args.b i 0))
    (λ i y f' l p. (e _ _ _ (search rules) (search rules) (search rules), search rules))
