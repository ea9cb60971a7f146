-- A run of triples: how it ends with a triple's answer, what that counts, and how many steps it can have.
use Rattle.std.specs.Prelude.{ℕ, Ok, Err}
use Rattle.std.specs.declared.result.Result.{Result}
use Rattle.terms.specs.Counts.{counts, none}
use Rattle.terms.specs.declared.Counted.{Counted}
use Rattle.terms.specs.declared.Counted.TheVariants.{Nothing, Cells, Clipped}
use Rattle.terms.specs.declared.Counts.{Counts}
use Rattle.terms.specs.declared.End.{End}
use Rattle.terms.specs.declared.End.TheVariants as E
use Rattle.terms.specs.declared.Refusal.{Refusal}

abbrev pub end_of : Result Counted Refusal → End
end_of (Ok n) = E.Done
end_of (Err k) = E.Refused k

-- what a step counts, as a run adds it up
abbrev pub amount : Counted → Counts
amount Nothing = none
amount (Cells n) = counts n 0
amount (Clipped n) = counts 0 n

abbrev pub counts_in : Result Counted Refusal → Counts
counts_in (Ok n) = amount n
counts_in (Err k) = none

-- a budget has 32 bits
abbrev pub most : ℕ
most = 4294967296
