-- `words::decode` meets its contract: each arm hands over what the table's row at its opcode says, and an opcode that is no arm's has no row.
use Rattle.std.proofs.Common.{◌≡◌, refl, ◌∙◌, sym, ap, Bool, true, false, List, [], ◌∷◌, ℕ, ⊎_elim, arith}
use Rattle.lane.specs.declared.Calc.{Calc}
use Rattle.lane.specs.declared.Calc.TheVariants.{Min, Max, Add, Sub}
use Rattle.words.specs.Fields.{fields_of, second_of}
use Rattle.words.specs.Table.{arith_of, shift_of, decode_of, decode_at, rows}
use Rattle.words.specs.Insn as N
use Rattle.words.specs.Decoded as D
use Rattle.words.specs.Inner.Meant.{by_byte, moving, meant, sided_by}
use Rattle.words.specs.declared.Increment.TheVariants.{Register, Immediate}
use Rattle.words.specs.declared.AccessAdd.{AccessAdd}
use Rattle.words.specs.declared.Insn.{Insn}
use Rattle.words.specs.declared.Insn.TheVariants as I
use Rattle.words.proofs.Unkeyed.{bare, low, gap, high}
use Rattle.words.proofs.decode.Goals as goal

-- where the opcode is known
module _ (word side mask : ℕ) {n : ℕ} (told : n ≡ (fields_of word).op) where
  op : {k : ℕ} → n ≡ k → (fields_of word).op ≡ k
  op e = sym told ∙ e

  row : {d : D.Decoded} {k : ℕ} → n ≡ k → d ≡ decode_at k (fields_of word) side mask → d ≡ decode_of word side mask
  unfolding decode_of
  row e q = q ∙ ap (λ (n : ℕ). decode_at n (fields_of word) side mask) (sym (op e))

  -- a case of two opcodes: which of them it is says where source 2 comes from
  either : (g : Bool → N.Insn) {k : ℕ} → n ≡ k → D.Insn (g (by_byte k)) ≡ decode_at k (fields_of word) side mask
      → D.Insn (g (by_byte (fields_of word).op)) ≡ decode_of word side mask
  either g e q = ap (λ (n : ℕ). D.Insn (g (by_byte n))) (op e) ∙ row e q

  -- an access that moves on: by a register, or by IMM
  by_register : (g : AccessAdd → Insn) {k : ℕ} → n ≡ k → {x : AccessAdd} → x ≡ moving word (Register side) → {d : D.Decoded} → d ≡ sided_by side (g x)
      → sided_by side (g (moving word (Register side))) ≡ decode_at k (fields_of word) side mask → d ≡ decode_of word side mask
  by_register g e h r q = r ∙ ap (λ (x : AccessAdd). sided_by side (g x)) h ∙ row e q

  by_immediate : (g : AccessAdd → Insn) {k : ℕ} → n ≡ k → {x : AccessAdd} → x ≡ moving word (Immediate (fields_of word).imm)
      → D.Insn (meant (g (moving word (Immediate (fields_of word).imm)))) ≡ decode_at k (fields_of word) side mask → D.Insn (meant (g x)) ≡ decode_of word side mask
  by_immediate g e h q = ap (λ (x : AccessAdd). D.Insn (meant (g x))) h ∙ row e q

arith_at : Calc → Bool → ℕ → Bool → N.Insn
arith_at calc signed w byte = N.Vector (arith_of (fields_of w) calc signed (second_of (fields_of w) byte))

shift_at : Bool → ℕ → Bool → N.Insn
shift_at signed w byte = N.Vector (shift_of (fields_of w) signed (second_of (fields_of w) byte))

-- the opcodes of the arms, the last arm's first
keys : List (List ℕ)
keys =
    (0xc3 ∷ 0xd7 ∷ 0xdb ∷ []) ∷ (0xdf ∷ []) ∷ (0xde ∷ []) ∷ (0xdd ∷ []) ∷ (0xdc ∷ []) ∷ (0xda ∷ []) ∷ (0xd9 ∷ []) ∷ (0xd8 ∷ []) ∷ (0xd6 ∷ []) ∷
    (0xd5 ∷ []) ∷ (0xd4 ∷ []) ∷ (0xd3 ∷ []) ∷ (0xd2 ∷ []) ∷ (0xd1 ∷ []) ∷ (0xd0 ∷ []) ∷ (0xcd ∷ []) ∷ (0xcc ∷ []) ∷
    (0xcb ∷ []) ∷ (0xca ∷ []) ∷ (0xc6 ∷ []) ∷ (0xc5 ∷ []) ∷ (0xc4 ∷ []) ∷ (0xc2 ∷ []) ∷ (0xc1 ∷ []) ∷ (0xc0 ∷ []) ∷
    (0xbf ∷ []) ∷ (0xbe ∷ []) ∷ (0xbd ∷ []) ∷ (0xbc ∷ []) ∷ (0xbb ∷ []) ∷ (0xba ∷ []) ∷ (0xb9 ∷ []) ∷ (0xb8 ∷ []) ∷
    (0xaf ∷ []) ∷ (0xae ∷ []) ∷ (0xad ∷ []) ∷ (0xac ∷ []) ∷ (0xab ∷ []) ∷ (0xaa ∷ []) ∷ (0xa9 ∷ []) ∷ (0xa8 ∷ []) ∷
    (0xa5 ∷ []) ∷ (0xa4 ∷ []) ∷ (0x9f ∷ []) ∷ (0x9e ∷ []) ∷ (0x9d ∷ []) ∷ (0x9c ∷ []) ∷ (0x9b ∷ []) ∷ (0x9a ∷ []) ∷
    (0x99 ∷ []) ∷ (0x98 ∷ []) ∷ (0x94 ∷ []) ∷ (0x8f ∷ []) ∷ (0x8e ∷ []) ∷ (0x8d ∷ []) ∷ (0x8c ∷ []) ∷ (0x8b ∷ []) ∷
    (0x8a ∷ []) ∷ (0x89 ∷ []) ∷ (0x88 ∷ []) ∷ []

pub returns-in-136 : goal.returns-in-136
unfolding rows decode_at meant arith_at
returns-in-136 c = either c.args.word c.args.side c.args.mask c.op_of-op.ensures (arith_at Min true c.args.word) c.in-136.is refl

pub returns-in-137 : goal.returns-in-137
unfolding rows decode_at meant arith_at
returns-in-137 c = either c.args.word c.args.side c.args.mask c.op_of-op.ensures (arith_at Max true c.args.word) c.in-137.is refl

pub returns-in-138 : goal.returns-in-138
unfolding rows decode_at meant
returns-in-138 c = row c.args.word c.args.side c.args.mask c.op_of-op.ensures c.in-138.is refl

pub returns-in-139 : goal.returns-in-139
unfolding rows decode_at meant
returns-in-139 c = row c.args.word c.args.side c.args.mask c.op_of-op.ensures c.in-139.is refl

pub returns-in-140 : goal.returns-in-140
unfolding rows decode_at meant arith_at
returns-in-140 c = either c.args.word c.args.side c.args.mask c.op_of-op.ensures (arith_at Add true c.args.word) c.in-140.is refl

pub returns-in-141 : goal.returns-in-141
unfolding rows decode_at meant
returns-in-141 c = row c.args.word c.args.side c.args.mask c.op_of-op.ensures c.in-141.is refl

pub returns-in-142 : goal.returns-in-142
unfolding rows decode_at meant shift_at
returns-in-142 c = either c.args.word c.args.side c.args.mask c.op_of-op.ensures (shift_at true c.args.word) c.in-142.is refl

pub returns-in-143 : goal.returns-in-143
unfolding rows decode_at meant
returns-in-143 c = row c.args.word c.args.side c.args.mask c.op_of-op.ensures c.in-143.is c.mask_checked.ensures

pub returns-in-148 : goal.returns-in-148
unfolding rows decode_at meant
returns-in-148 c = row c.args.word c.args.side c.args.mask c.op_of-op.ensures c.in-148.is refl

pub returns-in-152 : goal.returns-in-152
unfolding rows decode_at meant arith_at
returns-in-152 c = either c.args.word c.args.side c.args.mask c.op_of-op.ensures (arith_at Min false c.args.word) c.in-152.is refl

pub returns-in-153 : goal.returns-in-153
unfolding rows decode_at meant arith_at
returns-in-153 c = either c.args.word c.args.side c.args.mask c.op_of-op.ensures (arith_at Max false c.args.word) c.in-153.is refl

pub returns-in-154 : goal.returns-in-154
unfolding rows decode_at meant
returns-in-154 c = row c.args.word c.args.side c.args.mask c.op_of-op.ensures c.in-154.is refl

pub returns-in-155 : goal.returns-in-155
unfolding rows decode_at meant
returns-in-155 c = row c.args.word c.args.side c.args.mask c.op_of-op.ensures c.in-155.is refl

pub returns-in-156 : goal.returns-in-156
unfolding rows decode_at meant arith_at
returns-in-156 c = either c.args.word c.args.side c.args.mask c.op_of-op.ensures (arith_at Add false c.args.word) c.in-156.is refl

pub returns-in-157 : goal.returns-in-157
unfolding rows decode_at meant arith_at
returns-in-157 c = either c.args.word c.args.side c.args.mask c.op_of-op.ensures (arith_at Sub false c.args.word) c.in-157.is refl

pub returns-in-158 : goal.returns-in-158
unfolding rows decode_at meant shift_at
returns-in-158 c = either c.args.word c.args.side c.args.mask c.op_of-op.ensures (shift_at false c.args.word) c.in-158.is refl

pub returns-in-159 : goal.returns-in-159
unfolding rows decode_at meant
returns-in-159 c = row c.args.word c.args.side c.args.mask c.op_of-op.ensures c.in-159.is refl

pub returns-in-164 : goal.returns-in-164
unfolding rows decode_at meant
returns-in-164 c = row c.args.word c.args.side c.args.mask c.op_of-op.ensures c.in-164.is refl

pub returns-in-165 : goal.returns-in-165
unfolding rows decode_at meant
returns-in-165 c = row c.args.word c.args.side c.args.mask c.op_of-op.ensures c.in-165.is refl

pub returns-in-168 : goal.returns-in-168
unfolding rows decode_at meant arith_at
returns-in-168 c = either c.args.word c.args.side c.args.mask c.op_of-op.ensures (arith_at Min true c.args.word) c.in-168.is refl

pub returns-in-169 : goal.returns-in-169
unfolding rows decode_at meant arith_at
returns-in-169 c = either c.args.word c.args.side c.args.mask c.op_of-op.ensures (arith_at Max true c.args.word) c.in-169.is refl

pub returns-in-170 : goal.returns-in-170
unfolding rows decode_at meant
returns-in-170 c = row c.args.word c.args.side c.args.mask c.op_of-op.ensures c.in-170.is refl

pub returns-in-171 : goal.returns-in-171
unfolding rows decode_at meant
returns-in-171 c = row c.args.word c.args.side c.args.mask c.op_of-op.ensures c.in-171.is refl

pub returns-in-172 : goal.returns-in-172
unfolding rows decode_at meant arith_at
returns-in-172 c = either c.args.word c.args.side c.args.mask c.op_of-op.ensures (arith_at Add true c.args.word) c.in-172.is refl

pub returns-in-173 : goal.returns-in-173
unfolding rows decode_at meant
returns-in-173 c = row c.args.word c.args.side c.args.mask c.op_of-op.ensures c.in-173.is refl

pub returns-in-174 : goal.returns-in-174
unfolding rows decode_at meant shift_at
returns-in-174 c = either c.args.word c.args.side c.args.mask c.op_of-op.ensures (shift_at true c.args.word) c.in-174.is refl

pub returns-in-175 : goal.returns-in-175
unfolding rows decode_at meant
returns-in-175 c = row c.args.word c.args.side c.args.mask c.op_of-op.ensures c.in-175.is refl

pub returns-in-184 : goal.returns-in-184
unfolding rows decode_at meant arith_at
returns-in-184 c = either c.args.word c.args.side c.args.mask c.op_of-op.ensures (arith_at Min false c.args.word) c.in-184.is refl

pub returns-in-185 : goal.returns-in-185
unfolding rows decode_at meant arith_at
returns-in-185 c = either c.args.word c.args.side c.args.mask c.op_of-op.ensures (arith_at Max false c.args.word) c.in-185.is refl

pub returns-in-186 : goal.returns-in-186
unfolding rows decode_at meant
returns-in-186 c = row c.args.word c.args.side c.args.mask c.op_of-op.ensures c.in-186.is refl

pub returns-in-187 : goal.returns-in-187
unfolding rows decode_at meant
returns-in-187 c = row c.args.word c.args.side c.args.mask c.op_of-op.ensures c.in-187.is refl

pub returns-in-188 : goal.returns-in-188
unfolding rows decode_at meant arith_at
returns-in-188 c = either c.args.word c.args.side c.args.mask c.op_of-op.ensures (arith_at Add false c.args.word) c.in-188.is refl

pub returns-in-189 : goal.returns-in-189
unfolding rows decode_at meant arith_at
returns-in-189 c = either c.args.word c.args.side c.args.mask c.op_of-op.ensures (arith_at Sub false c.args.word) c.in-189.is refl

pub returns-in-190 : goal.returns-in-190
unfolding rows decode_at meant shift_at
returns-in-190 c = either c.args.word c.args.side c.args.mask c.op_of-op.ensures (shift_at false c.args.word) c.in-190.is refl

pub returns-in-191 : goal.returns-in-191
unfolding rows decode_at meant
returns-in-191 c = row c.args.word c.args.side c.args.mask c.op_of-op.ensures c.in-191.is refl

pub returns-in-192 : goal.returns-in-192
unfolding rows decode_at meant
returns-in-192 c = by_register c.args.word c.args.side c.args.mask c.op_of-op.ensures I.Ldavh c.in-192.is c.by_register.ensures c.side_checked.ensures refl

pub returns-in-193 : goal.returns-in-193
unfolding rows decode_at meant
returns-in-193 c = by_register c.args.word c.args.side c.args.mask c.op_of-op.ensures I.Ldavv c.in-193.is c.by_register-in-193.ensures c.side_checked-in-193.ensures refl

pub returns-in-194 : goal.returns-in-194
unfolding rows decode_at meant
returns-in-194 c = by_register c.args.word c.args.side c.args.mask c.op_of-op.ensures I.Ldas c.in-194.is c.by_register-in-194.ensures c.side_checked-in-194.ensures refl

pub returns-in-196 : goal.returns-in-196
unfolding rows decode_at meant
returns-in-196 c = by_register c.args.word c.args.side c.args.mask c.op_of-op.ensures I.Stavh c.in-196.is c.by_register-in-196.ensures c.side_checked-in-196.ensures refl

pub returns-in-197 : goal.returns-in-197
unfolding rows decode_at meant
returns-in-197 c = by_register c.args.word c.args.side c.args.mask c.op_of-op.ensures I.Stavv c.in-197.is c.by_register-in-197.ensures c.side_checked-in-197.ensures refl

pub returns-in-198 : goal.returns-in-198
unfolding rows decode_at meant
returns-in-198 c = by_register c.args.word c.args.side c.args.mask c.op_of-op.ensures I.Stas c.in-198.is c.by_register-in-198.ensures c.side_checked-in-198.ensures refl

pub returns-in-202 : goal.returns-in-202
unfolding rows decode_at meant
returns-in-202 c = row c.args.word c.args.side c.args.mask c.op_of-op.ensures c.in-202.is c.side_checked-in-202.ensures

pub returns-in-203 : goal.returns-in-203
unfolding rows decode_at meant
returns-in-203 c = row c.args.word c.args.side c.args.mask c.op_of-op.ensures c.in-203.is c.side_checked-in-203.ensures

pub returns-in-204 : goal.returns-in-204
unfolding rows decode_at meant
returns-in-204 c = row c.args.word c.args.side c.args.mask c.op_of-op.ensures c.in-204.is refl

pub returns-in-205 : goal.returns-in-205
unfolding rows decode_at meant
returns-in-205 c = row c.args.word c.args.side c.args.mask c.op_of-op.ensures c.in-205.is refl

pub returns-in-208 : goal.returns-in-208
unfolding rows decode_at meant
returns-in-208 c = by_immediate c.args.word c.args.side c.args.mask c.op_of-op.ensures I.Ldavh c.in-208.is c.by_immediate.ensures refl

pub returns-in-209 : goal.returns-in-209
unfolding rows decode_at meant
returns-in-209 c = by_immediate c.args.word c.args.side c.args.mask c.op_of-op.ensures I.Ldavv c.in-209.is c.by_immediate-in-209.ensures refl

pub returns-in-210 : goal.returns-in-210
unfolding rows decode_at meant
returns-in-210 c = by_immediate c.args.word c.args.side c.args.mask c.op_of-op.ensures I.Ldas c.in-210.is c.by_immediate-in-210.ensures refl

pub returns-in-211 : goal.returns-in-211
unfolding rows decode_at meant
returns-in-211 c = row c.args.word c.args.side c.args.mask c.op_of-op.ensures c.in-211.is refl

pub returns-in-212 : goal.returns-in-212
unfolding rows decode_at meant
returns-in-212 c = by_immediate c.args.word c.args.side c.args.mask c.op_of-op.ensures I.Stavh c.in-212.is c.by_immediate-in-212.ensures refl

pub returns-in-213 : goal.returns-in-213
unfolding rows decode_at meant
returns-in-213 c = by_immediate c.args.word c.args.side c.args.mask c.op_of-op.ensures I.Stavv c.in-213.is c.by_immediate-in-213.ensures refl

pub returns-in-214 : goal.returns-in-214
unfolding rows decode_at meant
returns-in-214 c = by_immediate c.args.word c.args.side c.args.mask c.op_of-op.ensures I.Stas c.in-214.is c.by_immediate-in-214.ensures refl

pub returns-in-216 : goal.returns-in-216
unfolding rows decode_at meant
returns-in-216 c = row c.args.word c.args.side c.args.mask c.op_of-op.ensures c.in-216.is refl

pub returns-in-217 : goal.returns-in-217
unfolding rows decode_at meant
returns-in-217 c = row c.args.word c.args.side c.args.mask c.op_of-op.ensures c.in-217.is refl

pub returns-in-218 : goal.returns-in-218
unfolding rows decode_at meant
returns-in-218 c = row c.args.word c.args.side c.args.mask c.op_of-op.ensures c.in-218.is refl

pub returns-in-220 : goal.returns-in-220
unfolding rows decode_at meant
returns-in-220 c = row c.args.word c.args.side c.args.mask c.op_of-op.ensures c.in-220.is refl

pub returns-in-221 : goal.returns-in-221
unfolding rows decode_at meant
returns-in-221 c = row c.args.word c.args.side c.args.mask c.op_of-op.ensures c.in-221.is refl

pub returns-in-222 : goal.returns-in-222
unfolding rows decode_at meant
returns-in-222 c = row c.args.word c.args.side c.args.mask c.op_of-op.ensures c.in-222.is refl

pub returns-in-223 : goal.returns-in-223
unfolding rows decode_at meant
returns-in-223 c = row c.args.word c.args.side c.args.mask c.op_of-op.ensures c.in-223.is refl

pub returns-in_default : goal.returns-in_default
returns-in_default c = row c.args.word c.args.side c.args.mask c.op_of-op.ensures refl (low (fields_of c.args.word) c.args.side c.args.mask c.op_of-op.result (omega arith))

pub returns-in_default-2 : goal.returns-in_default-2
unfolding keys rows
returns-in_default-2 c = row c.args.word c.args.side c.args.mask c.op_of-op.ensures refl (high (fields_of c.args.word) c.args.side c.args.mask c.op_of-op.result keys c.in_default.in_default-own.rest tt (omega arith))

pub returns-in-128-to-135 : goal.returns-in-128-to-135
unfolding rows decode_at
returns-in-128-to-135 c =
    ⊎_elim (λ e. row c.args.word c.args.side c.args.mask c.op_of-op.ensures {k = 0xc3} e refl)
    (λ m. ⊎_elim (λ e. row c.args.word c.args.side c.args.mask c.op_of-op.ensures {k = 0xd7} e refl)
    (λ e. row c.args.word c.args.side c.args.mask c.op_of-op.ensures {k = 0xdb} e refl) m) c.in-128-to-135.in-128-to-135-own.keys60

pub returns-in-128-to-135-2 : goal.returns-in-128-to-135-2
unfolding keys bare rows
returns-in-128-to-135-2 c = row c.args.word c.args.side c.args.mask c.op_of-op.ensures refl (gap (fields_of c.args.word) c.args.side c.args.mask c.op_of-op.result keys c.in-128-to-135.in_default-own.rest tt (omega arith) (omega arith))
