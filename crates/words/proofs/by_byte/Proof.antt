-- `words::by_byte` meets its contract: bit 29 of the word is bit 5 of the opcode.
use mathlib.Core.Path.{◌≡◌, ap}
use Prim.Native.Nat.{ℕ, ◌/◌, ◌%◌}
use native.Mathlib.Omega.{arith}
use lib.Dec.{eqb}
use Rattle.words.specs.Fields.{fields_of}
use Rattle.words.proofs.by_byte.Statement.{statement}
use Rattle.words.proofs.by_byte.Tie as tie

bit : (w : ℕ) → w / 536870912 % 2 ≡ w / 16777216 % 256 / 32 % 2
bit w = omega arith

pub by_byte_spec : {M : Type 1} → statement M
unfolding fields_of
by_byte_spec = tie.close (tie.spec (λ c. ap (λ (n : ℕ). eqb n 1) (bit c.args.word)))
