-- One triple: word, side index, side mask word. Document 01, "Answer numbers".
use Rattle.std.specs.Prelude.{ℕ, cond, []}
use Rattle.words.specs.Table.{decode_of}
use Rattle.terms.specs.Answers.{number}
use Rattle.terms.specs.Counts.{none}
use Rattle.terms.specs.declared.Counts.{Counts}
use Rattle.terms.specs.declared.Refusal.{Refusal}
use Rattle.terms.specs.declared.End.TheVariants as E
use Rattle.words.specs.Insn.{Insn}
use Rattle.words.specs.Insn as N
use Rattle.words.specs.Decoded.{Decoded}
use Rattle.words.specs.Decoded as D
use Rattle.pieces.specs.State.{State, sized_of}
use Rattle.pieces.specs.Place.{Xlat, xlat}
use Rattle.model.specs.Prog.{Prog, ret, ◌>>=◌, run, puts, Did, Done, only, done}
use Rattle.model.specs.Address.{address}
use Rattle.model.specs.Vector.{vector}

abbrev pub did : Insn → Prog Did
did (N.Address i) = address i
did (N.Vector i) = vector i
-- 0xbf and 0xdf change nothing
did N.Nop = ret (only [])

abbrev pub sem : Insn → Prog Done
sem i = did i >>= (λ d. ret (done d))

-- demand 2: the state after an accepted instruction, and its counts, under a translation
abbrev pub step_x : Xlat → Insn → State → State
step_x X i s = puts X (run X (sem i) s).writes s

abbrev pub counts_x : Xlat → Insn → State → Counts
counts_x X i s = (run X (sem i) s).counts

-- the same under document 01's translation. Contracts cite these two
unfoldable pub stepped : Insn → State → State
stepped i s = step_x xlat i s

unfoldable pub counted : Insn → State → Counts
counted i s = counts_x xlat i s

-- what a call for one triple leaves: the answer's number, what is counted, the six pieces
pub record Outcome : Type 0 where
  pub number : ℕ
  pub counts : Counts
  pub after : State

abbrev pub outcome : ℕ → Counts → State → Outcome
outcome n c s = record { number = n; counts = c; after = s }

-- the number of each refusal of a triple
abbrev pub refusal : Refusal → ℕ
refusal k = number (E.Refused k)

-- a refused instruction changes nothing and counts nothing
abbrev pub by_decoded : Decoded → State → Outcome
by_decoded (D.Insn i) s = outcome (number E.Done) (counted i s) (stepped i s)
by_decoded (D.Refused k) s = outcome (refusal k) none s

-- one triple on pieces of right lengths
unfoldable pub triple_of : ℕ → ℕ → ℕ → State → Outcome
triple_of word side mask s = by_decoded (decode_of word side mask) s

-- the single call
unfoldable pub step_of : ℕ → ℕ → ℕ → State → Outcome
step_of word side mask s = cond (sized_of s) (triple_of word side mask s) (outcome (number E.Lengths) none s)
