-- Source 2 of the arithmetic and shift operations: vabs and vneg have none.
use Rattle.std.specs.Prelude.{ℕ}

pub data Second : Type 0 where
  Register : ℕ → Second
  Byte : ℕ → Second
  Absent : Second
