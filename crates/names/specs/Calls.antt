-- What writing a word's line and reading a line give. Document 02, wish 2.
use Rattle.std.specs.Prelude.{ℕ, zero, suc, ◌^◌, Bool, true, false, cond, ◌&&◌, ◌||◌, not, List, [], ◌∷◌, ◌++◌, ltb, eqb, length, drop}
use Rattle.terms.specs.Answers.{number}
use Rattle.terms.specs.declared.Refusal.TheVariants.{Foreign, Undocumented}
use Rattle.terms.specs.declared.End.{End}
use Rattle.terms.specs.declared.End.TheVariants.{Done, Refused, Unnamed, Amiss, Unended, Short}
use Rattle.names.specs.Table.{documented, name_at, op_of, line_of, normal_of}
use Rattle.names.specs.declared.Written.{Written}
use Rattle.names.specs.declared.Read.{Read}

-- ---- writing

-- the answer's number, the line's length, the output afterwards
pub record Wrote : Type 0 where
  pub answer : ℕ
  pub bytes : ℕ
  pub after : List ℕ

abbrev pub wrote : ℕ → ℕ → List ℕ → Wrote
wrote n k out = record { answer = n; bytes = k; after = out }

-- "nothing is written on any of them"
abbrev pub unwritten : End → List ℕ → Wrote
unwritten e out = wrote (number e) 0 out

-- "the order is 1, 2, 11 in writing"; "output bytes after the line stay"
unfoldable pub write_of : ℕ → List ℕ → Wrote
write_of w out =
    cond (ltb (op_of w) 0x80 || ltb 0xdf (op_of w)) (unwritten (Refused Foreign) out)
    (cond (not (documented (op_of w))) (unwritten (Refused Undocumented) out)
    (cond (ltb (length out) (length (line_of w))) (unwritten Short out)
    (wrote (number Done) (length (line_of w)) (line_of w ++ drop (length (line_of w)) out))))

-- ---- reading

-- the answer's number, the word
pub record Got : Type 0 where
  pub answer : ℕ
  pub word : ℕ

abbrev pub got : ℕ → ℕ → Got
got n w = record { answer = n; word = w }

abbrev pub unread : End → Got
unread e = got (number e) 0

-- two texts are one
abbrev pub eqs : List ℕ → List ℕ → Bool
eqs [] [] = true
eqs [] (b ∷ t) = false
eqs (a ∷ s) [] = false
eqs (a ∷ s) (b ∷ t) = eqb a b && eqs s t

-- "the text's only line feed is its last byte"
unfoldable pub one_feed : List ℕ → Bool
one_feed [] = false
one_feed (b ∷ bs) = cond (eqb b 10) (eqb (length bs) 0) (one_feed bs)

-- "all up to the first space or line feed"
unfoldable pub up_to : List ℕ → List ℕ
up_to [] = []
up_to (b ∷ bs) = cond (eqb b 10 || eqb b 32) [] (b ∷ up_to bs)

-- the least number below n that passes a test, or n
unfoldable pub first : (ℕ → Bool) → ℕ → ℕ
first p zero = zero
first p (suc n) = cond (ltb (first p n) n) (first p n) (cond (p n) n (suc n))

-- some number below n passes it
abbrev pub some : (ℕ → Bool) → ℕ → Bool
some p n = ltb (first p n) n

-- the opcode has the name that the text begins with
unfoldable pub named_by : List ℕ → ℕ → Bool
named_by t op = documented op && eqs (up_to (name_at op)) (up_to t)

-- the word is written so
unfoldable pub written_as : List ℕ → ℕ → Bool
written_as t w = documented (op_of w) && eqs (line_of w) t

-- "the order is 10, 8, 9 in reading"; "accepted exactly if some word is written so", and then the normal form of such a word
unfoldable pub read_of : List ℕ → Got
read_of t =
    cond (not (one_feed t)) (unread Unended)
    (cond (not (some (named_by t) 256)) (unread Unnamed)
    (cond (not (some (written_as t) (2 ^ 32))) (unread Amiss)
    (got (number Done) (normal_of (first (written_as t) (2 ^ 32))))))

-- ---- what the calls of the code hand back stands for

abbrev pub written : Written → List ℕ → Wrote
written x out = wrote (number x.end) x.length out

abbrev pub read : Read → Got
read x = got (number x.end) x.word
