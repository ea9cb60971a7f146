-- `lanes::moves::mov_vc` meets its contract: byte i is byte i % 4 of word i / 4.
use Rattle.std.proofs.Common.{rules, [], ◌∷◌, ◌/◌, ◌%◌, w32, get_or}
use Rattle.std.specs.Int.{to_le_bytes}
use Rattle.lanes.specs.Lanes.{listed, flag_bytes}
use Rattle.lanes.proofs.FromFn.{from_fn_gives}
use Rattle.lanes.proofs.moves.mov_vc.Goals as goal

pub returns : goal.returns
unfolding listed flag_bytes
returns c =
    from_fn_gives c.from_fn.ensures.items (λ i. get_or (to_le_bytes w32 (get_or (c.args.w0 ∷ c.args.w1 ∷ c.args.w2 ∷ c.args.w3 ∷ []) (i / 4) 0)) (i % 4) 0) (λ i y f' l p. search rules)
