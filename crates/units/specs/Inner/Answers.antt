-- What `units::triple` leaves: a triple's answer, with what its step counts, and the six pieces; and the outcome that these stand for.
use Rattle.std.specs.Prelude.{ℕ, Ok, Err}
use Rattle.std.specs.declared.result.Result.{Result}
use Rattle.pieces.specs.State.{State}
use Rattle.model.specs.Step.{Outcome, outcome, stepped}
use Rattle.words.specs.Table.{decode_of}
use Rattle.words.specs.Decoded as D
use Rattle.words.specs.Insn.{Insn}
use Rattle.words.specs.Insn as N
use Rattle.address.specs.Inner.Effect.{counted_in}
use Rattle.ports.specs.Inner.Ports.{vectors}
use Rattle.vector.specs.Inner.Effect.{counted_of}
use Rattle.terms.specs.Answers.{number}
use Rattle.terms.specs.Inner.Runs.{end_of, counts_in}
use Rattle.terms.specs.declared.Counted.{Counted}
use Rattle.terms.specs.declared.Counted.TheVariants.{Nothing}
use Rattle.terms.specs.declared.Refusal.{Refusal}

pub record Answered : Type 0 where
  pub answer : Result Counted Refusal
  pub after : State

abbrev pub answered : Result Counted Refusal → State → Answered
answered x s = record { answer = x; after = s }

-- what a step counts
abbrev pub counted_by : Insn → State → Counted
counted_by (N.Address i) s = counted_in i s.a
counted_by (N.Vector i) s = counted_of i (vectors s.vc s.v)
counted_by N.Nop s = Nothing

-- one instruction
abbrev pub by_insn : Insn → State → Answered
by_insn i s = answered (Ok (counted_by i s)) (stepped i s)

abbrev pub by_decoded : D.Decoded → State → Answered
by_decoded (D.Insn i) s = by_insn i s
by_decoded (D.Refused k) s = answered (Err k) s

-- one triple
unfoldable pub answered_of : ℕ → ℕ → ℕ → State → Answered
answered_of word side mask s = by_decoded (decode_of word side mask) s

-- the outcome: document 01's number, what is counted, the six pieces
abbrev pub answer_outcome : Result Counted Refusal → State → Outcome
answer_outcome x s = outcome (number (end_of x)) (counts_in x) s
