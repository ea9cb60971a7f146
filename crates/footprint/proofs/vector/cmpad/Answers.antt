-- `footprint::vector::cmpad` meets its contract.
use native.Mathlib.Omega.{arith}
use lib.Bits.{or_lt}
use Rattle.words.specs.Table.{cmpad_of}
use Rattle.model.specs.Table.{reads_v, writes_v}
use Rattle.footprint.specs.Inner.Numbers.{touched}
use Rattle.footprint.proofs.Grown.{both, ends, cut}
use Rattle.footprint.proofs.vector.cmpad.Goals as goal

pub put_vector-pair-requires : goal.put_vector-pair-requires
put_vector-pair-requires c = or_lt 5 c.cut-f.result.src1 1 c.cut-f.ensures.2 (omega arith)

pub returns : goal.returns
returns c =
    cut (λ f. touched (reads_v (cmpad_of f c.args.mask)) (writes_v (cmpad_of f c.args.mask))) c.cut-f.ensures.0
    (ends (both (both (both c.sources.ensures c.put_vector-pair.ensures) c.put_vector.ensures) c.put_input-read.ensures) c.put_flags-list.ensures)
