-- What each answer stands for: the outcome of the call, in the model's numbers.
use Rattle.std.specs.Prelude.{ℕ, List, Some, None}
use Rattle.std.specs.declared.option.Option.{Option}
use Rattle.terms.specs.Answers.{number}
use Rattle.model.specs.Swap.{Verdict, verdict, free, SwapOutcome, swap_outcome, PlacesOutcome, places_outcome}
use Rattle.swap.specs.declared.Clash.{Clash}
use Rattle.swap.specs.declared.Swap.{Swap}
use Rattle.swap.specs.declared.Listed.{Listed}

-- no clash; or the place that clashes, and which of the two writes it
abbrev pub told : Option Clash → Verdict
told None = free
told (Some x) = verdict 1 x.place x.writer

abbrev pub swap_answer : Swap → SwapOutcome
swap_answer x = swap_outcome (number x.end) (told x.clash)

-- with the buffer that the call leaves
abbrev pub list_answer : Listed → List ℕ → PlacesOutcome
list_answer x b = places_outcome (number x.end) x.reads x.writes b
