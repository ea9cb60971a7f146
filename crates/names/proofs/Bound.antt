-- The normal form of a documented word is a word of 32 bits.
use mathlib.Core.Bool.{Bool, true, ◌&&◌}
use mathlib.Core.List.{List, [], ◌∷◌}
use Prim.Native.Nat.{ℕ, ◌*◌, ◌^◌, ◌<◌, ◌≤◌}
use native.Mathlib.Nat.{mul-le-mul_right, le_trans}
use native.Mathlib.Omega.{arith}
use lib.Dec.{T, leb, leb→le}
use lib.ListN.{length}
use Rattle.names.specs.Line.{Operand, value_of, fields_of}
use Rattle.names.specs.Table.{row_at, rows, documented, operands_at, op_of, normal_of}
use Rattle.names.proofs.Tests.{and_left, and_right, below}
use Rattle.names.proofs.Gather.{fine}
use Rattle.names.proofs.Fields.{fines, value_small}
use Rattle.names.proofs.Rows.{op_small, row_fines}
use Rattle.names.proofs.Lines.{documented_range}

abbrev pub lows : List Operand → Bool
lows [] = true
lows (o ∷ os) = leb (2 ^ o.bits * 2 ^ o.at) 16777216 && lows os

fields_bound : (os : List Operand) (w : ℕ) → T (lows os) → T (fines os) → fields_of os w ≤ length os * 16777216
unfolding fields_of
fields_bound [] w l f = omega arith
fields_bound (o ∷ os) w l f =
    let v = value_small o w (and_left (fine o.kind o.bits) (fines os) f) in
    let m : value_of o w * 2 ^ o.at ≤ 2 ^ o.bits * 2 ^ o.at = mul-le-mul_right (2 ^ o.at) (omega arith) in
    let b : 2 ^ o.bits * 2 ^ o.at ≤ 16777216 = leb→le _ _ (and_left (leb (2 ^ o.bits * 2 ^ o.at) 16777216) (lows os) l) in
    let r = fields_bound os w (and_right (leb (2 ^ o.bits * 2 ^ o.at) 16777216) (lows os) l) (and_right (fine o.kind o.bits) (fines os) f) in
    let s : value_of o w * 2 ^ o.at ≤ 16777216 = le_trans m b in
    omega (arith, s, r)

row_low : (op : ℕ) → op < 256 → T (lows (operands_at op) && leb (length (operands_at op)) 5)
unfolding row_at rows
row_low = below (λ op. lows (operands_at op) && leb (length (operands_at op)) 5) 256 tt

pub normal_word : (w : ℕ) → T (documented (op_of w)) → normal_of w < 2 ^ 32
unfolding normal_of
normal_word w d =
    let t = row_low (op_of w) (op_small w) in
    let b = fields_bound (operands_at (op_of w)) w (and_left (lows (operands_at (op_of w))) (leb (length (operands_at (op_of w))) 5) t) (row_fines (op_of w) (op_small w)) in
    let n : length (operands_at (op_of w)) ≤ 5 = leb→le _ _ (and_right (lows (operands_at (op_of w))) (leb (length (operands_at (op_of w))) 5) t) in
    let r = documented_range (op_of w) (op_small w) d in
    omega (arith, b, n, r.1)
