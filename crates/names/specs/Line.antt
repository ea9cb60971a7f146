-- Texts, numerals and operands: what one operand of a line looks like, and which bits of the word it shows. Document 02, wish 2.
use Rattle.std.specs.Prelude.{ℕ, zero, suc, ◌+◌, ◌*◌, ◌-◌, ◌/◌, ◌%◌, ◌^◌, Bool, true, cond, List, [], ◌∷◌, ◌++◌, ltb, eqb}
use Prim.Native.Char.{code}
use Prim.Native.String as S

-- the bytes of a text
abbrev pub ascii : S.String → List ℕ
ascii S.[] = []
ascii (S.◌∷◌ c s) = code c ∷ ascii s

-- a digit below 16: 0 to 9, a to f
abbrev pub digit : ℕ → ℕ
digit d = cond (ltb d 10) (48 + d) (87 + d)

-- n in base b "without leading zeros", in at most the given number of digits
unfoldable pub numeral : ℕ → ℕ → ℕ → List ℕ
numeral zero b n = []
numeral (suc k) b n = cond (ltb n b) (digit n ∷ []) (numeral k b (n / b) ++ digit (n % b) ∷ [])

-- what an operand shows. A number, in its base and behind what stands before it; a flags register; a signed immediate; `lo` or `hi`; all of `$vc`
pub data Kind : Type 0 where
  number : ℕ → List ℕ → Kind
  flags : List ℕ → Kind
  signed : Kind
  lohi : Kind
  allvc : Kind

-- an operand: what it shows, and its field, the bits from `at` on
pub record Operand : Type 0 where
  pub kind : Kind
  pub at : ℕ
  pub bits : ℕ

-- "an absent flags register 7"
abbrev pub kept : Kind → ℕ → ℕ
kept (number b p) v = v
kept (flags p) v = cond (ltb v 4) v 7
kept signed v = v
kept lohi v = v
kept allvc v = v

-- is it written? A flags register is "left out where its field is 4 or more"
abbrev pub shown : Kind → ℕ → Bool
shown (number b p) v = true
shown (flags p) v = ltb v 4
shown signed v = true
shown lohi v = true
shown allvc v = true

-- the text of a value; "signed ones with `-` in front where negative"
abbrev pub text_of : Kind → ℕ → List ℕ
text_of (number b p) v = p ++ numeral 4 b v
text_of (flags p) v = p ++ numeral 4 10 v
text_of signed v = cond (ltb v 1024) (ascii "0x" ++ numeral 4 16 v) (ascii "-0x" ++ numeral 4 16 (2048 - v))
text_of lohi v = cond (eqb v 0) (ascii "lo") (ascii "hi")
text_of allvc v = ascii "$vc"

-- the operand's value in a word
unfoldable pub value_of : Operand → ℕ → ℕ
value_of o w = kept o.kind (w / 2 ^ o.at % 2 ^ o.bits)

-- the texts of a word's operands
unfoldable pub texts_of : List Operand → ℕ → List (List ℕ)
texts_of [] w = []
texts_of (o ∷ os) w = cond (shown o.kind (value_of o w)) (text_of o.kind (value_of o w) ∷ texts_of os w) (texts_of os w)

-- the operands' fields of a word, and no other bit: "ignored bits 0"
unfoldable pub fields_of : List Operand → ℕ → ℕ
fields_of [] w = 0
fields_of (o ∷ os) w = value_of o w * 2 ^ o.at + fields_of os w

-- "one space between, and a line feed"
unfoldable pub ended : List (List ℕ) → List ℕ
ended [] = 10 ∷ []
ended (t ∷ ts) = 32 ∷ t ++ ended ts
