-- What a function of two components gives.
use Rattle.std.specs.Prelude.{◌≡◌, ℕ, ◌<◌}
use Rattle.std.specs.Fn.{Shared}

-- at any two bytes, f gives what h says
abbrev pub Gives : {F R : Type 0} → Shared F (ℕ × (ℕ × Unit {0})) R → F → (ℕ → ℕ → R) → Type 0
Gives {F} {R} g f h = (x y : ℕ) (r : R) → x < 256 → y < 256 → g.post f (x, (y, tt)) r → r ≡ h x y
