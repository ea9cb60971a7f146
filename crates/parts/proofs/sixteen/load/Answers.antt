-- Word by word.
use Rattle.std.proofs.Common.{refl}
use Rattle.parts.specs.Words.{unworded}
use Rattle.parts.proofs.sixteen.load.Goals as goal

pub returns : goal.returns
unfolding unworded
returns c = rw (c.from.ensures, c.wide.ensures, c.wide-2.ensures, c.bytes.ensures) refl
