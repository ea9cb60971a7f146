-- What the search finds.
use Rattle.std.specs.Prelude.{ℕ, cond, List, [], ◌∷◌, Some, None}
use Rattle.std.specs.declared.option.Option.{Option}
use Rattle.model.specs.Swap.{has}

-- the first of xs that is in ys
abbrev pub first_of : List ℕ → List ℕ → Option ℕ
first_of [] ys = None
first_of (x ∷ xs) ys = cond (has x ys) (Some x) (first_of xs ys)
