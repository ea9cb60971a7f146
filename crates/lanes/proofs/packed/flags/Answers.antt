-- `lanes::packed::flags` meets its contract: two masks of sixteen tests, one behind the other.
use mathlib.Core.Path.{refl}
use native.Mathlib.Omega.{arith}
use Rattle.std.proofs.lemmas.Grind.{or_after_shift}
use Rattle.lanes.proofs.Packing.{zeros_lt, tops_lt, zero_mask, top_mask}
use Rattle.lanes.proofs.packed.flags.Goals as goal

pub overflow_cast-zeros : goal.overflow_cast-zeros
overflow_cast-zeros c = record { fits = omega (arith, zero_mask c.args.tested c.well_formed.0.1.0.1, zeros_lt c.args.tested) }

pub overflow_cast-signs : goal.overflow_cast-signs
overflow_cast-signs c = record { fits = omega (arith, top_mask c.args.tops c.well_formed.1.0.1.0.1, tops_lt c.args.tops) }

pub returns : goal.returns
returns c =
    rw (zero_mask c.args.tested c.well_formed.0.1.0.1, top_mask c.args.tops c.well_formed.1.0.1.0.1)
    (or_after_shift _ 65536 _ _ refl (tops_lt c.args.tops) (omega (arith, zeros_lt c.args.tested)))
