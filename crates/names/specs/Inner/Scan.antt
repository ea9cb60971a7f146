-- How the reader finds its candidate. It takes any bytes: a wrong text gives a word whose line is another.
use Rattle.std.specs.Prelude.{ℕ, ◌+◌, ◌*◌, ◌-◌, ◌%◌, ◌^◌, Bool, true, cond, List, [], ◌∷◌, ltb, eqb, length, drop, get_or}
use Rattle.names.specs.Line.{Kind, number, flags, signed, lohi, allvc, Operand}
use Rattle.names.specs.Table.{name_at, operands_at}

abbrev pub digit_of : ℕ → ℕ
digit_of c = cond (ltb c 58) (c - 48) (c - 87)

-- the digits after n, in base b, cut to sixteen bits
unfoldable pub digits_of : ℕ → ℕ → List ℕ → ℕ
digits_of b n [] = n
digits_of b n (c ∷ cs) = digits_of b ((n * b + digit_of c) % 65536) cs

-- the value of a text as an operand of a kind
abbrev pub meant : Kind → List ℕ → ℕ
meant (number b p) t = digits_of b 0 (drop (length p) t)
meant (flags p) t = digits_of 10 0 (drop (length p) t)
meant signed t = cond (eqb (get_or t 0 0) 45) (2048 - digits_of 16 0 (drop 3 t)) (digits_of 16 0 (drop 2 t))
meant lohi t = cond (eqb (get_or t 0 0) 104) 1 0
meant allvc t = 0

abbrev pub first : List (List ℕ) → List ℕ
first ts = get_or ts 0 []

-- a flags register is there if there are more texts than operands after it
abbrev pub present : Kind → ℕ → ℕ → Bool
present (number b p) m n = true
present (flags p) m n = ltb m n
present signed m n = true
present lohi m n = true
present allvc m n = true

unfoldable pub gathered : List Operand → List (List ℕ) → ℕ
gathered [] ts = 0
gathered (o ∷ os) ts =
    cond
    (present o.kind (length os) (length ts))
    (meant o.kind (first ts) % 2 ^ o.bits * 2 ^ o.at + gathered os (drop 1 ts))
    (7 * 2 ^ o.at + gathered os ts)

-- the text up to the first space or line feed, and the texts after it
unfoldable pub split : List ℕ → List ℕ × List (List ℕ)
split [] = ([], [])
split (b ∷ bs) =
    cond
    (eqb b 10)
    ([], [])
    (cond (eqb b 32) ([], (split bs).0 ∷ (split bs).1) (b ∷ (split bs).0, (split bs).1))

-- the texts of the operands: those after the name, and after its `s` or `u`
abbrev pub operand_texts : ℕ → List ℕ → List (List ℕ)
operand_texts op t = drop (length (split (name_at op)).1) (split t).1

-- the word that the text would be, were it a line of this opcode
unfoldable pub candidate : ℕ → List ℕ → ℕ
candidate op t = op * 2 ^ 24 + gathered (operands_at op) (operand_texts op t)
