-- `names::table::form_of` meets its contract: each arm is right at its opcode, and no other opcode has a row.
use mathlib.Core.List.{List, [], ◌∷◌}
use Prim.Native.Nat.{ℕ}
use native.Mathlib.Omega.{arith}
use Rattle.names.specs.Table.{row_at, rows}
use Rattle.names.specs.Inner.Code.{form_code, form_of, slot_of}
use Rattle.names.proofs.Arms.{code_arm, code_other}
use Rattle.names.proofs.table.form_of.Goals as goal

-- the arms' opcodes, the last arm's first
keys : List (List ℕ)
keys = (0xde ∷ []) ∷ (0xdd ∷ []) ∷ (0xdc ∷ []) ∷ (0xda ∷ []) ∷ (0xd9 ∷ []) ∷ (0xd8 ∷ []) ∷ (0xd6 ∷ []) ∷ (0xd5 ∷ []) ∷ (0xd4 ∷ []) ∷ (0xd3 ∷ []) ∷ (0xd2 ∷ []) ∷ (0xd1 ∷ []) ∷ (0xd0 ∷ []) ∷ (0xcd ∷ []) ∷ (0xcc ∷ []) ∷ (0xcb ∷ []) ∷ (0xca ∷ []) ∷ (0xc6 ∷ []) ∷ (0xc5 ∷ []) ∷ (0xc4 ∷ []) ∷ (0xc2 ∷ []) ∷ (0xc1 ∷ []) ∷ (0xc0 ∷ []) ∷ (0xbe ∷ []) ∷ (0xbd ∷ []) ∷ (0xbc ∷ []) ∷ (0xbb ∷ []) ∷ (0xba ∷ []) ∷ (0xb9 ∷ []) ∷ (0xb8 ∷ []) ∷ (0xaf ∷ []) ∷ (0xae ∷ []) ∷ (0xad ∷ []) ∷ (0xac ∷ []) ∷ (0xab ∷ []) ∷ (0xaa ∷ []) ∷ (0xa9 ∷ []) ∷ (0xa8 ∷ []) ∷ (0xa5 ∷ []) ∷ (0xa4 ∷ []) ∷ (0x9f ∷ []) ∷ (0x9e ∷ []) ∷ (0x9d ∷ []) ∷ (0x9c ∷ []) ∷ (0x9b ∷ []) ∷ (0x9a ∷ []) ∷ (0x99 ∷ []) ∷ (0x98 ∷ []) ∷ (0x94 ∷ []) ∷ (0x8f ∷ []) ∷ (0x8e ∷ []) ∷ (0x8d ∷ []) ∷ (0x8c ∷ []) ∷ (0x8b ∷ []) ∷ (0x8a ∷ []) ∷ (0x89 ∷ []) ∷ (0x88 ∷ []) ∷ []

pub returns-in-136 : goal.returns-in-136
unfolding form_code form_of slot_of row_at rows
returns-in-136 c = code_arm form_code c.args.op c.in-136.is tt

pub returns-in-137 : goal.returns-in-137
unfolding form_code form_of slot_of row_at rows
returns-in-137 c = code_arm form_code c.args.op c.in-137.is tt

pub returns-in-138 : goal.returns-in-138
unfolding form_code form_of slot_of row_at rows
returns-in-138 c = code_arm form_code c.args.op c.in-138.is tt

pub returns-in-139 : goal.returns-in-139
unfolding form_code form_of slot_of row_at rows
returns-in-139 c = code_arm form_code c.args.op c.in-139.is tt

pub returns-in-140 : goal.returns-in-140
unfolding form_code form_of slot_of row_at rows
returns-in-140 c = code_arm form_code c.args.op c.in-140.is tt

pub returns-in-141 : goal.returns-in-141
unfolding form_code form_of slot_of row_at rows
returns-in-141 c = code_arm form_code c.args.op c.in-141.is tt

pub returns-in-142 : goal.returns-in-142
unfolding form_code form_of slot_of row_at rows
returns-in-142 c = code_arm form_code c.args.op c.in-142.is tt

pub returns-in-143 : goal.returns-in-143
unfolding form_code form_of slot_of row_at rows
returns-in-143 c = code_arm form_code c.args.op c.in-143.is tt

pub returns-in-148 : goal.returns-in-148
unfolding form_code form_of slot_of row_at rows
returns-in-148 c = code_arm form_code c.args.op c.in-148.is tt

pub returns-in-152 : goal.returns-in-152
unfolding form_code form_of slot_of row_at rows
returns-in-152 c = code_arm form_code c.args.op c.in-152.is tt

pub returns-in-153 : goal.returns-in-153
unfolding form_code form_of slot_of row_at rows
returns-in-153 c = code_arm form_code c.args.op c.in-153.is tt

pub returns-in-154 : goal.returns-in-154
unfolding form_code form_of slot_of row_at rows
returns-in-154 c = code_arm form_code c.args.op c.in-154.is tt

pub returns-in-155 : goal.returns-in-155
unfolding form_code form_of slot_of row_at rows
returns-in-155 c = code_arm form_code c.args.op c.in-155.is tt

pub returns-in-156 : goal.returns-in-156
unfolding form_code form_of slot_of row_at rows
returns-in-156 c = code_arm form_code c.args.op c.in-156.is tt

pub returns-in-157 : goal.returns-in-157
unfolding form_code form_of slot_of row_at rows
returns-in-157 c = code_arm form_code c.args.op c.in-157.is tt

pub returns-in-158 : goal.returns-in-158
unfolding form_code form_of slot_of row_at rows
returns-in-158 c = code_arm form_code c.args.op c.in-158.is tt

pub returns-in-159 : goal.returns-in-159
unfolding form_code form_of slot_of row_at rows
returns-in-159 c = code_arm form_code c.args.op c.in-159.is tt

pub returns-in-164 : goal.returns-in-164
unfolding form_code form_of slot_of row_at rows
returns-in-164 c = code_arm form_code c.args.op c.in-164.is tt

pub returns-in-165 : goal.returns-in-165
unfolding form_code form_of slot_of row_at rows
returns-in-165 c = code_arm form_code c.args.op c.in-165.is tt

pub returns-in-168 : goal.returns-in-168
unfolding form_code form_of slot_of row_at rows
returns-in-168 c = code_arm form_code c.args.op c.in-168.is tt

pub returns-in-169 : goal.returns-in-169
unfolding form_code form_of slot_of row_at rows
returns-in-169 c = code_arm form_code c.args.op c.in-169.is tt

pub returns-in-170 : goal.returns-in-170
unfolding form_code form_of slot_of row_at rows
returns-in-170 c = code_arm form_code c.args.op c.in-170.is tt

pub returns-in-171 : goal.returns-in-171
unfolding form_code form_of slot_of row_at rows
returns-in-171 c = code_arm form_code c.args.op c.in-171.is tt

pub returns-in-172 : goal.returns-in-172
unfolding form_code form_of slot_of row_at rows
returns-in-172 c = code_arm form_code c.args.op c.in-172.is tt

pub returns-in-173 : goal.returns-in-173
unfolding form_code form_of slot_of row_at rows
returns-in-173 c = code_arm form_code c.args.op c.in-173.is tt

pub returns-in-174 : goal.returns-in-174
unfolding form_code form_of slot_of row_at rows
returns-in-174 c = code_arm form_code c.args.op c.in-174.is tt

pub returns-in-175 : goal.returns-in-175
unfolding form_code form_of slot_of row_at rows
returns-in-175 c = code_arm form_code c.args.op c.in-175.is tt

pub returns-in-184 : goal.returns-in-184
unfolding form_code form_of slot_of row_at rows
returns-in-184 c = code_arm form_code c.args.op c.in-184.is tt

pub returns-in-185 : goal.returns-in-185
unfolding form_code form_of slot_of row_at rows
returns-in-185 c = code_arm form_code c.args.op c.in-185.is tt

pub returns-in-186 : goal.returns-in-186
unfolding form_code form_of slot_of row_at rows
returns-in-186 c = code_arm form_code c.args.op c.in-186.is tt

pub returns-in-187 : goal.returns-in-187
unfolding form_code form_of slot_of row_at rows
returns-in-187 c = code_arm form_code c.args.op c.in-187.is tt

pub returns-in-188 : goal.returns-in-188
unfolding form_code form_of slot_of row_at rows
returns-in-188 c = code_arm form_code c.args.op c.in-188.is tt

pub returns-in-189 : goal.returns-in-189
unfolding form_code form_of slot_of row_at rows
returns-in-189 c = code_arm form_code c.args.op c.in-189.is tt

pub returns-in-190 : goal.returns-in-190
unfolding form_code form_of slot_of row_at rows
returns-in-190 c = code_arm form_code c.args.op c.in-190.is tt

pub returns-in-192 : goal.returns-in-192
unfolding form_code form_of slot_of row_at rows
returns-in-192 c = code_arm form_code c.args.op c.in-192.is tt

pub returns-in-193 : goal.returns-in-193
unfolding form_code form_of slot_of row_at rows
returns-in-193 c = code_arm form_code c.args.op c.in-193.is tt

pub returns-in-194 : goal.returns-in-194
unfolding form_code form_of slot_of row_at rows
returns-in-194 c = code_arm form_code c.args.op c.in-194.is tt

pub returns-in-196 : goal.returns-in-196
unfolding form_code form_of slot_of row_at rows
returns-in-196 c = code_arm form_code c.args.op c.in-196.is tt

pub returns-in-197 : goal.returns-in-197
unfolding form_code form_of slot_of row_at rows
returns-in-197 c = code_arm form_code c.args.op c.in-197.is tt

pub returns-in-198 : goal.returns-in-198
unfolding form_code form_of slot_of row_at rows
returns-in-198 c = code_arm form_code c.args.op c.in-198.is tt

pub returns-in-202 : goal.returns-in-202
unfolding form_code form_of slot_of row_at rows
returns-in-202 c = code_arm form_code c.args.op c.in-202.is tt

pub returns-in-203 : goal.returns-in-203
unfolding form_code form_of slot_of row_at rows
returns-in-203 c = code_arm form_code c.args.op c.in-203.is tt

pub returns-in-204 : goal.returns-in-204
unfolding form_code form_of slot_of row_at rows
returns-in-204 c = code_arm form_code c.args.op c.in-204.is tt

pub returns-in-205 : goal.returns-in-205
unfolding form_code form_of slot_of row_at rows
returns-in-205 c = code_arm form_code c.args.op c.in-205.is tt

pub returns-in-208 : goal.returns-in-208
unfolding form_code form_of slot_of row_at rows
returns-in-208 c = code_arm form_code c.args.op c.in-208.is tt

pub returns-in-209 : goal.returns-in-209
unfolding form_code form_of slot_of row_at rows
returns-in-209 c = code_arm form_code c.args.op c.in-209.is tt

pub returns-in-210 : goal.returns-in-210
unfolding form_code form_of slot_of row_at rows
returns-in-210 c = code_arm form_code c.args.op c.in-210.is tt

pub returns-in-211 : goal.returns-in-211
unfolding form_code form_of slot_of row_at rows
returns-in-211 c = code_arm form_code c.args.op c.in-211.is tt

pub returns-in-212 : goal.returns-in-212
unfolding form_code form_of slot_of row_at rows
returns-in-212 c = code_arm form_code c.args.op c.in-212.is tt

pub returns-in-213 : goal.returns-in-213
unfolding form_code form_of slot_of row_at rows
returns-in-213 c = code_arm form_code c.args.op c.in-213.is tt

pub returns-in-214 : goal.returns-in-214
unfolding form_code form_of slot_of row_at rows
returns-in-214 c = code_arm form_code c.args.op c.in-214.is tt

pub returns-in-216 : goal.returns-in-216
unfolding form_code form_of slot_of row_at rows
returns-in-216 c = code_arm form_code c.args.op c.in-216.is tt

pub returns-in-217 : goal.returns-in-217
unfolding form_code form_of slot_of row_at rows
returns-in-217 c = code_arm form_code c.args.op c.in-217.is tt

pub returns-in-218 : goal.returns-in-218
unfolding form_code form_of slot_of row_at rows
returns-in-218 c = code_arm form_code c.args.op c.in-218.is tt

pub returns-in-220 : goal.returns-in-220
unfolding form_code form_of slot_of row_at rows
returns-in-220 c = code_arm form_code c.args.op c.in-220.is tt

pub returns-in-221 : goal.returns-in-221
unfolding form_code form_of slot_of row_at rows
returns-in-221 c = code_arm form_code c.args.op c.in-221.is tt

pub returns-in-222 : goal.returns-in-222
unfolding form_code form_of slot_of row_at rows
returns-in-222 c = code_arm form_code c.args.op c.in-222.is tt

pub returns-in_default : goal.returns-in_default
unfolding form_code form_of slot_of row_at rows keys
returns-in_default c = code_other form_code c.args.op keys tt (omega arith) c.in_default.in_default-own.rest
