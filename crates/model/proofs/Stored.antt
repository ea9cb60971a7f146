-- What a step of an operation that tells leaves in $v[DST]: each component counts exactly where it, read back, is not the true result.
use mathlib.Core.Path.{◌≡◌, refl, ap, ◌∙◌}
use mathlib.Core.Logic.{◌↔◌}
use mathlib.Core.Bool.{Bool, true, false, cond}
use mathlib.Core.List.{List, [], ◌∷◌, ◌++◌}
use Prim.Native.Nat.{ℕ, ◌+◌, ◌*◌, ◌≤◌, ◌<◌}
use native.Mathlib.Omega.{arith}
use lib.Dec.{ltb}
use lib.IntN.{pos, ◌+ℤ◌}
use lib.ListN.{length, get_or, take, drop, length-append}
use lib.Seq.{sets, sets-eq, length-take-le, take_all, take_at, drop_at, drop-append-le}
use Rattle.signed.specs.Signed.{sext, widen}
use Rattle.lane.specs.Lane.{saturated, result, tells, arith_lane, add9_lane}
use Rattle.lane.proofs.Clipped.{read_back, read_back_nine}
use Rattle.lanes.specs.Lanes.{Lanes, lanes_of, arith_lanes, add9_lanes}
use Rattle.lanes.proofs.Listed.{length_sixteen, get_d_listed}
use Rattle.words.specs.Operands.{ArithOps, ThreeOps}
use Rattle.words.specs.Vector as W
use Rattle.words.specs.Insn as N
use Rattle.pieces.specs.State.{State, Sized}
use Rattle.pieces.specs.Place.{xlat, signs, zeros}
use Rattle.model.specs.Prog.{ret, run, puts, ◌≔◌, Did, Done, done}
use Rattle.model.specs.Vector.{flags_to, lanes_to, second, vector}
use Rattle.model.specs.Claims.{bytes_of, component, second_at, addend, clips}
use Rattle.model.specs.Step.{stepped}
use Rattle.model.proofs.Laws.{run_bind}
use Rattle.model.proofs.Clipped.{second_at_lem}

-- sixteen bytes put down are read back
window : (xs v : List ℕ) (k : ℕ) → length xs ≡ 16 → k + 16 ≤ length v → take 16 (drop k (sets v k (take 16 xs))) ≡ xs
window xs v k e h =
    let rest : List ℕ = drop (k + length xs) v in
    let front : length (take k v) ≡ k = length-take-le k v (omega arith) in
    ap (λ (l : List ℕ). take 16 (drop k (sets v k l))) (take_all 16 xs (omega (arith, e)))
    ∙ ap (λ (l : List ℕ). take 16 (drop k l)) (sets-eq xs v k (omega (arith, e)))
    ∙ ap (λ (l : List ℕ). take 16 l) (drop-append-le k (take k v ++ xs) rest (omega (arith, length-append (take k v) xs, front)))
    ∙ ap (λ (l : List ℕ). take 16 (l ++ rest)) (drop_at (take k v) xs k front)
    ∙ take_at xs rest 16 e

flags_leave : (n sf zf : ℕ) (s : State) → (puts xlat (flags_to n sf zf) s).v ≡ s.v
flags_leave n sf zf s = go (ltb n 4)
  where
    go : (b : Bool) → (puts xlat (cond b ((signs n ≔ sf) ∷ (zeros n ≔ zf) ∷ []) []) s).v ≡ s.v
    go true = refl
    go false = refl

module _ (s : State) (z : Sized s) where
  -- the sixteen bytes of a result, where there is such a register
  lanes_leave : (dst n : ℕ) (l : Lanes) → dst < 32 → length l.bytes ≡ 16 → bytes_of (puts xlat (lanes_to dst n l).writes s) dst ≡ l.bytes
  lanes_leave dst n l h e =
      ap (λ (v : List ℕ). take 16 (drop (16 * dst) v)) (flags_leave n l.signs l.zeros _)
      ∙ window l.bytes s.v (16 * dst) e (omega (arith, z.v))

  -- the writes of a step are those of its program
  step_writes : (i : W.Vector) → stepped (N.Vector i) s ≡ puts xlat (run xlat (vector i) s).writes s
  unfolding stepped
  step_writes i = ap (λ (d : Done). puts xlat d.writes s) (run_bind xlat (vector i) (λ d. ret (done d)) s)

  module _ (o : ArithOps) (h : o.dst < 32) (k : ℕ) (u : k < 16) where
    arith_leaves : component (stepped (N.Vector (W.Arith o)) s) o.dst k
        ≡ (arith_lane o.calc o.signed (component s o.src1 k) (second_at o.second s k)).byte
    unfolding arith_lanes lanes_of
    arith_leaves =
        let ys : List ℕ = run xlat (second o.second) s in
        ap (λ (t : State). component t o.dst k) (step_writes (W.Arith o) ∙ ap (λ (d : Did). puts xlat d.writes s) (run_bind xlat (second o.second) _ s))
        ∙ ap (λ (l : List ℕ). get_or l k 0) (lanes_leave o.dst o.vcdst (arith_lanes o.calc o.signed (bytes_of s o.src1) ys) h (length_sixteen _))
        ∙ get_d_listed _ k u
        ∙ ap (λ (y : ℕ). (arith_lane o.calc o.signed (component s o.src1 k) y).byte) (second_at_lem s o.second k u)

    -- vadd, vsub, vneg, vabs
    pub stored_back : tells o.calc ≡ true
        → (clips (N.Vector (W.Arith o)) s k ≡ true)
        ↔ (widen o.signed (component (stepped (N.Vector (W.Arith o)) s) o.dst k)
        ≡ result o.calc (widen o.signed (component s o.src1 k)) (widen o.signed (second_at o.second s k)) → ⊥)
    unfolding arith_lane saturated
    stored_back e = rw arith_leaves (read_back o.calc e o.signed (component s o.src1 k) (second_at o.second s k))

  module _ (o : ThreeOps) (h : o.dst < 32) (k : ℕ) (u : k < 16) where
    nine_leaves : component (stepped (N.Vector (W.Add9 o)) s) o.dst k ≡ (add9_lane (component s o.src1 k) (addend s o.src2 o.src3 k)).byte
    unfolding add9_lanes lanes_of
    nine_leaves =
        ap (λ (t : State). component t o.dst k) (step_writes (W.Add9 o))
        ∙ ap (λ (l : List ℕ). get_or l k 0) (lanes_leave o.dst o.vcdst (add9_lanes (bytes_of s o.src1) (bytes_of s o.src2) (bytes_of s o.src3)) h (length_sixteen _))
        ∙ get_d_listed _ k u

    -- vadd9
    pub stored_back_nine : (clips (N.Vector (W.Add9 o)) s k ≡ true)
        ↔ (pos (component (stepped (N.Vector (W.Add9 o)) s) o.dst k) ≡ pos (component s o.src1 k) +ℤ sext (addend s o.src2 o.src3 k) 8 → ⊥)
    unfolding add9_lane saturated
    stored_back_nine = rw nine_leaves (read_back_nine (component s o.src1 k) (addend s o.src2 o.src3 k))
