-- The four products, joined, by the law for every width.
use Rattle.bits.proofs.Bitop.{products_is}
use Rattle.bits.proofs.bitop8.Goals as goal

pub returns : goal.returns
returns c =
    rw (
      c.gated-neither.ensures,
      c.bit_of.ensures,
      c.gated-first.ensures,
      c.bit_of-2.ensures,
      c.gated-second.ensures,
      c.bit_of-3.ensures,
      c.gated-both.ensures,
      c.bit_of-4.ensures,
    )
    (products_is 8 c.args.op c.args.a c.args.b c.ranges.a.fits c.ranges.b.fits)
