-- What is counted: the cells that accesses entered, and the components whose true result lay outside the clip range; of steps one after the
-- other, and the bound that no step passes.
use Rattle.std.specs.Prelude.{ℕ, ◌+◌, ◌*◌, ◌≤◌, Bool, ◌&&◌, leb}
use Rattle.terms.specs.declared.Counts.{Counts}

abbrev pub counts : ℕ → ℕ → Counts
counts accesses clipped = record { accesses = accesses; clipped = clipped }

-- what is refused counts nothing
abbrev pub none : Counts
none = counts 0 0

-- steps one after the other
abbrev pub plus : Counts → Counts → Counts
plus x y = counts (x.accesses + y.accesses) (x.clipped + y.clipped)

-- n steps count no more than this: "No access counts more than 16", and a vector has sixteen components
pub record Within (n : ℕ) (c : Counts) : Type 0 where
  pub accesses : c.accesses ≤ n * 16
  pub clipped : c.clipped ≤ n * 16

-- the same as a test
abbrev pub within_of : ℕ → Counts → Bool
within_of n c = leb c.accesses (n * 16) && leb c.clipped (n * 16)
