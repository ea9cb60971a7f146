-- What the code's own values stand for.
use Rattle.std.specs.Prelude.{ℕ, zero, suc, ◌+◌, ◌*◌, ◌/◌, ◌%◌, ◌^◌, ◌<◌, ◌≤◌, ◌≡◌, Bool, cond, ◌&&◌, List, [], ◌∷◌, ◌++◌, ltb, eqb, drop, get_or}
use Rattle.names.specs.Inner.Scan.{meant, candidate}
use Rattle.names.specs.Line.{digit, Kind, number, flags, signed, lohi, allvc, Operand, shown, text_of, value_of}
use Rattle.names.specs.Calls.{eqs, up_to, some, first, written_as}
use Rattle.names.specs.Table.{areg, rreg, vreg, dst, src1, src2, src3, c, vc, every_vc, bimm, uimm, imm, imm16, bitop, cmpop, half, documented, name_at, operands_at, line_of, normal_of}

-- a text behind a number, as one number
unfoldable pub packed : ℕ → List ℕ → ℕ
packed n [] = n
packed n (b ∷ bs) = packed (n * 256 + b) bs

-- a packed text with the last digit of m behind it, unless m is 0
unfoldable pub lead_of : ℕ → ℕ → ℕ
lead_of p m = cond (eqb m 0) p (p * 256 + digit (m % 16))

-- with the last three hexadecimal digits of n behind it, without leading zeros
unfoldable pub last_hex : ℕ → ℕ → ℕ
last_hex p n = lead_of (lead_of p (n / 256)) (n / 16) * 256 + digit (n % 16)

-- the last byte of a packed text: none where only the 1 is left
unfoldable pub last_of : ℕ → List ℕ
last_of p = cond (ltb p 256) [] ((p % 256) ∷ [])

-- the bytes of a packed text
unfoldable pub unpacked : ℕ → ℕ → List ℕ
unpacked zero p = []
unpacked (suc k) p = unpacked k (p / 256) ++ last_of p

-- an operand's text with the space before it, or nothing
unfoldable pub piece_of : Operand → ℕ → List ℕ
piece_of o w = cond (shown o.kind (value_of o w)) (32 ∷ text_of o.kind (value_of o w)) []

-- the code's numbers for operands: 0 is none, and 19 the last
abbrev pub slots : List Operand
slots =
    half ∷ areg dst ∷ areg src1 ∷ areg src2 ∷ rreg dst ∷ rreg src1 ∷ vreg dst ∷ vreg src1 ∷ vreg src2 ∷ vreg src3 ∷ c ∷ vc ∷ every_vc ∷ bimm ∷ uimm ∷ imm ∷ imm16 ∷ bitop ∷ cmpop ∷ []

unfoldable pub slot_at : ℕ → Operand
slot_at o = get_or slots o half

unfoldable pub piece_at : ℕ → ℕ → List ℕ
piece_at o w = cond (eqb o 0) [] (piece_of (slot_at o) w)

-- the field that a text would be, in its bits of the word
unfoldable pub taken_at : ℕ → List ℕ → ℕ
taken_at o t = meant (slot_at o).kind t % 2 ^ (slot_at o).bits * 2 ^ (slot_at o).at

-- a list of operands as one number in base 32, the first operand's number lowest
unfoldable pub listed : ℕ → ℕ → List Operand
listed zero f = []
listed (suc k) f = cond (eqb (f % 32) 0) (listed k (f / 32)) (slot_at (f % 32) ∷ listed k (f / 32))

-- what tells operands apart, as numbers
abbrev tagged : Kind → ℕ → ℕ → List ℕ
tagged (number b p) at n = 0 ∷ at ∷ n ∷ b ∷ p
tagged (flags p) at n = 1 ∷ at ∷ n ∷ 0 ∷ p
tagged signed at n = 2 ∷ at ∷ n ∷ 0 ∷ []
tagged lohi at n = 3 ∷ at ∷ n ∷ 0 ∷ []
tagged allvc at n = 4 ∷ at ∷ n ∷ 0 ∷ []

abbrev pub told : Operand → List ℕ
told o = tagged o.kind o.at o.bits

-- the number of an operand among those from n on
unfoldable pub slot_of : Operand → ℕ → List Operand → ℕ
slot_of o n [] = n
slot_of o n (p ∷ ps) = cond (eqs (told o) (told p)) n (slot_of o (suc n) ps)

unfoldable pub form_of : List Operand → ℕ
form_of [] = 0
form_of (o ∷ os) = slot_of o 1 (drop 1 slots) + 32 * form_of os

unfoldable pub form_code : ℕ → ℕ
form_code op = form_of (operands_at op)

-- a name, packed; 0 where there is none
unfoldable pub name_code : ℕ → ℕ
name_code op = cond (documented op) (packed 1 (name_at op)) 0

-- the same of its first part, up to a space
unfoldable pub head_code : ℕ → ℕ
head_code op = cond (documented op) (packed 1 (up_to (name_at op))) 0

-- a packed name is that of an opcode
unfoldable pub bears : ℕ → ℕ → Bool
bears h op = eqb (head_code op) h

-- no opcode below n has this name
abbrev pub NoneNamed : ℕ → ℕ → Type 0
NoneNamed h n = (k : ℕ) → 128 ≤ k → k < n → head_code k ≡ h → ⊥

-- the candidate of an opcode, if the text is its line, else 0
unfoldable pub tried_at : ℕ → List ℕ → ℕ
tried_at op t = cond (documented op && eqs (line_of (candidate op t)) t) (candidate op t) 0

-- the word that a text is read as, or 0
unfoldable pub word_in : List ℕ → ℕ
word_in t = cond (some (written_as t) (2 ^ 32)) (normal_of (first (written_as t) (2 ^ 32))) 0
