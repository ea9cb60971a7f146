-- Unsigned operations on bytes whose result is never clipped: their sign flags are clear, and none is told. They are moves.
use mathlib.Core.Path.{◌≡◌, refl, sym, ap, ◌∙◌}
use mathlib.Core.Bool.{false, cond}
use mathlib.Core.List.{List}
use Prim.Native.Nat.{ℕ}
use lib.ListN.{get_or, length}
use Rattle.lane.specs.declared.Calc.{Calc}
use Rattle.lane.specs.Lane.{Lane, arith_lane, mov_lane}
use Rattle.lane.proofs.Saturated.{moved}
use Rattle.lanes.specs.Lanes.{listed}
use Rattle.lanes.specs.Inner.Unpacked.{arith_unpacked, mov_unpacked}
use Rattle.lanes.proofs.Listed.{elements, length_sixteen}
use Rattle.lanes.proofs.Unpacking.{quiet}

pub unclipped : (op : Calc) (a b : List ℕ) (f : ℕ → ℕ) {bs : List ℕ}
    → ((i : ℕ) → arith_lane op false (get_or a i 0) (get_or b i 0) ≡ moved false 0 (f i))
    → bs ≡ listed 16 (λ i. (arith_lane op false (get_or a i 0) (get_or b i 0)).byte)
    → mov_unpacked bs ≡ arith_unpacked op false a b
unfolding arith_unpacked mov_unpacked mov_lane
unclipped op a b f {bs} law e =
    let s = elements bs (ap length e ∙ length_sixteen _) in
    sym (quiet _ s s (λ i. refl) (λ i. refl))
    ∙ quiet _ e e (λ i. ap (λ (l : Lane). cond l.sign 255 0) (law i)) (λ i. ap (λ (l : Lane). l.clipped) (law i))
