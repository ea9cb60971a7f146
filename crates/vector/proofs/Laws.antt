-- What the instructions' proofs need besides the contracts: they follow from these laws, with no answer of their own.
use Prim.Native.Nat.{ℕ, ◌<◌}
use native.Mathlib.Omega.{arith}
use lib.Bits.{bit_or, or_lt}
use Rattle.lanes.proofs.Unpacking.{arith_packs, shift_packs, clip_packs, add9_packs, min_abs_packs, bitop_packs, logic_packs, mov_packs, mov_imm_packs}

-- the second register of a pair is there
pub pair : (n : ℕ) → n < 32 → bit_or n 1 < 32
pair n h = or_lt 5 n 1 h (omega arith)

-- what an operation hands back stands for what the model says of it
pub ruleset laws = (pair, arith_packs, shift_packs, clip_packs, add9_packs, min_abs_packs, bitop_packs, logic_packs, mov_packs, mov_imm_packs)
