-- Counts are added field by field, and stay within their bound.
use mathlib.Core.Path.{◌≡◌, refl}
use mathlib.Core.Bool.{Bool, true, false, false≢true, ◌&&◌}
use Prim.Native.Nat.{ℕ, ◌+◌, ◌*◌, ◌≤◌}
use native.Mathlib.Omega.{arith}
use native.Mathlib.Nat.{zero-add}
use lib.Dec.{leb}
use borrow.Author.Tests.{leb-true, le-leb}
use Rattle.terms.specs.declared.Counts.{Counts}
use Rattle.terms.specs.Counts.{counts, none, plus, Within, within_of}

-- nothing counted before adds nothing
pub none_plus : (c : Counts) → plus none c ≡ c
none_plus c = λ i. counts (zero-add c.accesses i) (zero-add c.clipped i)

-- two steps add the same in both orders
pub plus_swap : (c x y : Counts) → plus (plus c x) y ≡ plus (plus c y) x
plus_swap c x y = λ i. counts (swap c.accesses x.accesses y.accesses i) (swap c.clipped x.clipped y.clipped i)
  where
    swap : (k m n : ℕ) → k + m + n ≡ k + n + m
    swap k m n = omega arith

pub within_none : (n : ℕ) → Within n none
within_none n = record { accesses = omega arith; clipped = omega arith }

pub within_plus : (m n : ℕ) (x y : Counts) → Within m x → Within n y → Within (m + n) (plus x y)
within_plus m n x y p q =
    record { accesses = omega (arith, p.accesses, q.accesses); clipped = omega (arith, p.clipped, q.clipped) }

pub within_le : (m n : ℕ) (x : Counts) → m ≤ n → Within m x → Within n x
within_le m n x h p = record { accesses = omega (arith, p.accesses, h); clipped = omega (arith, p.clipped, h) }

pub right : (n : ℕ) → n + 0 ≡ n
right n = omega arith

-- nothing counted afterwards adds nothing
pub plus_none : (c : Counts) → plus c none ≡ c
plus_none c = λ i. counts (right c.accesses i) (right c.clipped i)

-- three counts add the same from either end
pub plus_assoc : (c d e : Counts) → plus (plus c d) e ≡ plus c (plus d e)
plus_assoc c d e = λ i. counts (assoc c.accesses d.accesses e.accesses i) (assoc c.clipped d.clipped e.clipped i)
  where
    assoc : (k m n : ℕ) → k + m + n ≡ k + (m + n)
    assoc k m n = omega arith

-- both of two tests
pub and_true : (x y : Bool) → (x && y) ≡ true → (x ≡ true) × (y ≡ true)
and_true true y e = (refl, e)
and_true false y e = absurd (false≢true e)

-- the bound by its test
pub within_if : (n : ℕ) (c : Counts) → within_of n c ≡ true → Within n c
within_if n c e =
    let t = and_true (leb c.accesses (n * 16)) (leb c.clipped (n * 16)) e in
    record { accesses = leb-true c.accesses (n * 16) t.0; clipped = leb-true c.clipped (n * 16) t.1 }

pub within_only : (n : ℕ) (c : Counts) → Within n c → within_of n c ≡ true
within_only n c w = rw (le-leb c.accesses (n * 16) w.accesses, le-leb c.clipped (n * 16) w.clipped) refl
