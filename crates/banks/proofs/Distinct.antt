-- How many different numbers a list holds, where a function runs over a line of addresses.
--
use mathlib.Core.Path.{◌≡◌, refl, sym, ap, ap₂, ◌∙◌, subst}
use mathlib.Core.Bool.{true, false, or-true, or_self_left}
use mathlib.Core.List.{List, [], ◌∷◌, map, map-map}
use Prim.Native.Nat.{ℕ, zero, suc, ◌+◌, ◌*◌, ◌/◌, ◌≤◌, ◌<◌}
use native.Mathlib.Omega.{arith}
use native.Mathlib.Nat.{zero-add, add-zero, add-suc, suc-add, not-suc-le-zero, le_of_suc-le-suc}
use lib.Dec.{eqb}
use borrow.Author.Tests.{ne_eqb, eq-eqb}
use Rattle.banks.specs.Line.{from, line, has, distinct}

-- x is none of f s, f (s + 1), .. , n of them
fresh : (f : ℕ → ℕ) (x s n : ℕ) → ((i : ℕ) → s ≤ i → i < s + n → x ≡ f i → ⊥) → has x (map f (from s n)) ≡ false
fresh f x s zero h = refl
fresh f x s (suc n) h =
    rw (ne_eqb x (f s) (h s (omega arith) (omega arith))) (fresh f x (suc s) n (λ i l u. h i (omega arith) (omega arith)))

all_distinct : (f : ℕ → ℕ) (s n : ℕ) → ((i j : ℕ) → i < s + n → j < s + n → f i ≡ f j → i ≡ j)
    → distinct (map f (from s n)) ≡ n
all_distinct f s zero h = refl
all_distinct f s (suc n) h =
    rw (fresh f (f s) (suc s) n (λ i l u e. let z : s ≡ i = h s i (omega arith) (omega arith) e in omega arith))
    (ap suc (all_distinct f (suc s) n (λ i j hi hj. h i j (omega arith) (omega arith))))

has_at : (f : ℕ → ℕ) (s n i : ℕ) → i < n → has (f (s + i)) (map f (from s n)) ≡ true
has_at f s zero i h = absurd (not-suc-le-zero h)
has_at f s (suc n) zero h = rw (add-zero s, eq-eqb (f s) (f s) refl)
has_at f s (suc n) (suc i) h =
    subst (λ (k : ℕ). has (f k) (map f (from s (suc n))) ≡ true) (suc-add s i ∙ sym (add-suc s i))
    (rw (has_at f (suc s) n i (le_of_suc-le-suc h)) (or-true (eqb (f (suc s + i)) (f s))))

-- ---- the same of a line

pub line_distinct : (f : ℕ → ℕ) (b s n : ℕ) → ((i j : ℕ) → i < n → j < n → f (b + i * s) ≡ f (b + j * s) → i ≡ j)
    → distinct (map f (line b s n)) ≡ n
unfolding line
line_distinct f b s n h =
    ap distinct (map-map f (λ k. b + k * s) (from 0 n))
    ∙ all_distinct (λ k. f (b + k * s)) 0 n (λ i j hi hj. h i j (omega arith) (omega arith))

pub line_has : (f : ℕ → ℕ) (b s n i : ℕ) → i < n → has (f (b + i * s)) (map f (line b s n)) ≡ true
unfolding line
line_has f b s n i h =
    ap (has (f (b + i * s))) (map-map f (λ k. b + k * s) (from 0 n))
    ∙ (rw zero-add at (has_at (λ k. f (b + k * s)) 0 n i h))

pub line_lacks : (f : ℕ → ℕ) (b s n x : ℕ) → ((i : ℕ) → i < n → x ≡ f (b + i * s) → ⊥) → has x (map f (line b s n)) ≡ false
unfolding line
line_lacks f b s n x h =
    ap (has x) (map-map f (λ k. b + k * s) (from 0 n)) ∙ fresh (λ k. f (b + k * s)) x 0 n (λ i l u. h i (omega arith))

-- ---- each number twice running

twice : (ℕ → ℕ) → ℕ → ℕ → List ℕ
twice f s zero = []
twice f s (suc n) = f s ∷ f s ∷ twice f (suc s) n

has_twice : (f : ℕ → ℕ) (x s n : ℕ) → has x (twice f s n) ≡ has x (map f (from s n))
unfolding twice
has_twice f x s zero = refl
has_twice f x s (suc n) = rw (has_twice f x (suc s) n) (or_self_left (eqb x (f s)) (has x (map f (from (suc s) n))))

distinct_twice : (f : ℕ → ℕ) (s n : ℕ) → distinct (twice f s n) ≡ distinct (map f (from s n))
unfolding twice
distinct_twice f s zero = refl
distinct_twice f s (suc n) = rw (eq-eqb (f s) (f s) refl, has_twice f (f s) (suc s) n, distinct_twice f (suc s) n)

pub map_ext : (f g : ℕ → ℕ) (s n : ℕ) → ((i : ℕ) → i < s + n → f i ≡ g i) → map f (from s n) ≡ map g (from s n)
map_ext f g s zero h = refl
map_ext f g s (suc n) h =
    ap₂ {C = List ℕ} (λ x l. x ∷ l) (h s (omega arith)) (map_ext f g (suc s) n (λ i l. h i (omega arith)))

-- sixteen addresses at which f goes two and two, as g at i / 2 does, give eight numbers
pub two_and_two : (f g : ℕ → ℕ) (b s : ℕ) → ((i : ℕ) → i < 16 → f (b + i * s) ≡ g (i / 2))
    → ((i j : ℕ) → i < 8 → j < 8 → g i ≡ g j → i ≡ j)
    → distinct (map f (line b s 16)) ≡ 8
unfolding line twice
two_and_two f g b s h inj =
    ap distinct (map-map f (λ k. b + k * s) (from 0 16) ∙ map_ext (λ k. f (b + k * s)) (λ k. g (k / 2)) 0 16 h)
    ∙ distinct_twice g 0 8
    ∙ all_distinct g 0 8 inj
