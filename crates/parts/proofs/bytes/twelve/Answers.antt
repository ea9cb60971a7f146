-- Twelve zeros, what is left over put down in them, and then as many of the others as there is room for.
use Rattle.std.proofs.Common.{◌≡◌, List, ℕ, length, ap, ◌∙◌}
use Rattle.std.proofs.Math.Seq.{paste}
use Rattle.parts.proofs.Twelve.{left_length, put_fits, put_twice}
use Rattle.parts.proofs.bytes.twelve.Goals as goal

pub put-requires : goal.put-requires
put-requires c =
    let f = put_fits c.args.held c.args.bytes.now c.args.count c.min-n.result c.well_formed.0.1.0.1 c.requires c.min-n.ensures in
    (f.1, f.0)

pub returns : goal.returns
returns c =
    let whole : length c.args.held ≡ 12 = c.well_formed.0.1.0.1 in
    let bs = c.args.bytes.now in
    let n = c.min-n.result in (
      c.put.ensures
          ∙ ap (λ (l : List ℕ). paste l c.args.count bs n) c.put-left.ensures
          ∙ put_twice c.args.held bs c.args.count n whole c.requires c.min-n.ensures,
      left_length c.args.held bs c.args.count n whole c.requires,
    )
