-- What a selector picks: its parts, lane by lane, and the picks from two sources.
use mathlib.Core.Path.{◌≡◌, refl, ap, ◌∙◌}
use mathlib.Core.Bool.{Bool, true, false, cond}
use mathlib.Core.List.{List, map}
use Prim.Native.Nat.{ℕ, ◌-◌, ◌/◌, ◌%◌, ◌^◌, ◌<◌}
use native.Mathlib.Omega.{arith}
use lib.Dec.{eqb}
use lib.ListN.{length, get_or, replicate}
use lib.Bits.{bit_and, and_mask}
use lib.Lanes.{zip2, sel_l, top}
use Rattle.std.specs.Int.{w8}
use Rattle.std.proofs.lemmas.List.{length-map, get_or-map}
use Rattle.std.proofs.lemmas.Simd.{zip2_splat, map-map, tops_compared, length-sel_l, get_or-sel_l, swz_l, SwzOk, SwzOk-from_below, Each1-from_get_or, length-swz_l, get_or-swz_l_below}
use Rattle.lanes.specs.Lanes.{component, source, swizzled}
use Rattle.lanes.proofs.Listed.{listed_is}

-- the low k bits of each lane, and of its high half
pub low : (k : ℕ) (l : List ℕ) → length l ≡ 16 → zip2 bit_and l (replicate 16 (2 ^ k - 1)) ≡ map (λ x. x % 2 ^ k) l
low k l e = zip2_splat bit_and l 16 (2 ^ k - 1) e ∙ (λ i. map (λ x. and_mask x k i) l)

pub high : (k : ℕ) (l : List ℕ) → length l ≡ 16 → zip2 bit_and (zip2 (λ a b. a / 2 ^ b) l (replicate 16 4)) (replicate 16 (2 ^ k - 1)) ≡ map (λ x. x / 16 % 2 ^ k) l
high k l e =
    rw (zip2_splat (λ a b. a / 2 ^ b) l 16 4 e)
    (low k (map (λ x. x / 16) l) (length-map l (λ x. x / 16) ∙ e) ∙ map-map (λ x. x % 2 ^ k) (λ x. x / 16) l)

component_lt : (hi : Bool) (s : ℕ) → component hi s < 16
component_lt true s = omega arith
component_lt false s = omega arith

-- both sources, picked from by the components k, and one pick of the two by the sources t
module _ (hi : Bool) (sel : List ℕ) (e : length sel ≡ 16) {k : List ℕ} (is : k ≡ map (component hi) sel) where
  long : length k ≡ 16
  long = rw is (length-map sel (component hi) ∙ e)

  at : (i : ℕ) → i < 16 → get_or k i 0 ≡ component hi (get_or sel i 0)
  at i h = rw is (get_or-map (component hi) sel i 0 0 (omega (arith, e)))

  pub picks : SwzOk w8 16 16 0 k
  picks = SwzOk-from_below w8 16 1 16 0 k refl (omega (arith, long)) (Each1-from_get_or (λ j. j < 16) k 0 (λ i h. let h : i < 16 = omega (arith, long) in rw (at i h) (component_lt hi (get_or sel i 0))))

  picked : (a : List ℕ) (i : ℕ) → i < 16 → get_or (swz_l w8 16 a 0 k) i 0 ≡ get_or a (component hi (get_or sel i 0)) 0
  picked a i h =
      let below = component_lt hi (get_or sel i 0) in
      get_or-swz_l_below w8 16 a 0 k i (omega (arith, long)) (rw (at i h) below) ∙ rw (at i h) (ap (λ j. get_or a j 0) (omega arith))

  pub all_picked : (a b : List ℕ) {t : List ℕ} → t ≡ map (source hi) sel
      → sel_l (map (top 7) (zip2 (λ a b. cond (eqb a b) 255 0) t (replicate 16 0))) (swz_l w8 16 a 0 k) (swz_l w8 16 b 0 k) ≡ swizzled hi a b sel
  unfolding swizzled
  all_picked a b {t} q =
      let first : ℕ → Bool = λ s. eqb (source hi s) 0 in
      let m : map (top 7) (zip2 (λ a b. cond (eqb a b) 255 0) t (replicate 16 0)) ≡ map first sel =
      tops_compared w8 eqb t (replicate 16 0) ∙ rw q (zip2_splat eqb (map (source hi) sel) 16 0 (length-map sel (source hi) ∙ e) ∙ map-map (λ x. eqb x 0) (source hi) sel)
      in
      let n : length (map first sel) ≡ 16 = length-map sel first ∙ e in
      let p : length (swz_l w8 16 a 0 k) ≡ 16 = length-swz_l w8 16 a 0 k ∙ long in
      let r : length (swz_l w8 16 b 0 k) ≡ 16 = length-swz_l w8 16 b 0 k ∙ long in
      rw m
      (listed_is _ _ (length-sel_l (map first sel) _ _ (omega (arith, n, p)) (omega (arith, n, r)) ∙ n)
      (λ i h. get_or-sel_l (map first sel) _ _ i 0 (omega (arith, n)) (omega (arith, p)) (omega (arith, r)) ∙ rw (get_or-map first sel i 0 false (omega (arith, e)), picked a i h, picked b i h)))
