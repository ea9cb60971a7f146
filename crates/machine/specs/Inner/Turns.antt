-- The list call's loop: how far it goes, and its report.
use Rattle.std.specs.Prelude.{ℕ, ◌*◌, ◌/◌, cond, ltb}
use Rattle.terms.specs.declared.Counts.{Counts}
use Rattle.terms.specs.declared.End.{End}
use Rattle.machine.specs.declared.Ran.{Ran}

abbrev pub ran_of : End → ℕ → Counts → Ran
ran_of e n c = record { end = e; steps = n; counts = c }

-- how many of a list's words a budget covers
abbrev pub covered_by : ℕ → ℕ → ℕ
covered_by count budget = cond (ltb (count / 3) budget) (3 * (count / 3)) (3 * budget)
