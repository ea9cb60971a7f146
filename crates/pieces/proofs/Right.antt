-- The right lengths and their test.
use Rattle.std.proofs.Common.{◌≡◌, ℕ, Bool, true, false, cond, eqb, length, ap, arith, eqb-true}
use Rattle.terms.proofs.Sums.{and_true}
use Rattle.pieces.specs.State.{State, Sized, sized_of, lengths}

-- the two truth values differ
pub clash : false ≡ true → ⊥
clash e = let z : ◌≡◌ {A = ℕ} 0 1 = ap (λ (x : Bool). cond x 1 0) e in omega arith

-- what passes the test has the right lengths
pub sized_if : (s : State) → sized_of s ≡ true → Sized s
unfolding lengths
sized_if s e =
    let e₁ = and_true _ (eqb (length s.v) 512) e in
    let e₂ = and_true _ (eqb (length s.vc) 4) e₁.0 in
    let e₃ = and_true _ (eqb (length s.c) 4) e₂.0 in
    let e₄ = and_true _ (eqb (length s.r) 32) e₃.0 in
    let e₅ = and_true (eqb (length s.ds) 8192) (eqb (length s.a) 32) e₄.0 in
    record {
      ds = eqb-true _ _ e₅.0;
      a = eqb-true _ _ e₅.1;
      r = eqb-true _ _ e₄.1;
      c = eqb-true _ _ e₃.1;
      vc = eqb-true _ _ e₂.1;
      v = eqb-true _ _ e₁.1;
    }

-- and the right lengths pass it
pub sized_only : (s : State) → Sized s → sized_of s ≡ true
unfolding lengths
sized_only s h = rw (h.ds, h.a, h.r, h.c, h.vc, h.v)
