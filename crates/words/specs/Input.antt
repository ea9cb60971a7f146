-- vcmpad's input bits: the side mask, or the sign flags of the destination.
use Rattle.std.specs.Prelude.{ℕ}

pub data Input : Type 0 where
  Mask : ℕ → Input
  Signs : Input
