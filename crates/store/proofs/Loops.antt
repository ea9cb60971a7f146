-- What a loop over sixteen bytes keeps, turn by turn: how far a buffer is filled, or which stores are left to do.
use mathlib.Core.Path.{◌≡◌, refl, sym, ap, ◌∙◌}
use mathlib.Core.List.{List, []}
use Prim.Native.Nat.{ℕ, ◌+◌, ◌*◌, ◌%◌, ◌≤◌, ◌<◌}
use native.Mathlib.Omega.{arith}
use native.Mathlib.Nat.{not-suc-le-zero}
use native.Mathlib.Decide.{ℕ_discrete}
use lib.ListN.{length, get_or, set, drop, length-set, drop_of_length-le}
use lib.Seq.{get_or-set_same, get_or-set_other}
use Rattle.store.specs.Inner.Steps.{upto}
use Rattle.store.specs.Inner.Loads.{loaded, stored}
use Rattle.store.proofs.Laws.{length_upto, get_d_upto, loads_by, stored_next, stored_none}

-- ---- the first i of sixteen bytes are those of xs at the places g 0, g 1, ..

pub record Filled (xs : List ℕ) (g : ℕ → ℕ) (i : ℕ) (out : List ℕ) : Type 0 where
  pub size : length out ≡ 16
  pub made : (k : ℕ) → k < i → get_or out k 0 ≡ get_or xs (g k) 0

pub filled_none : (xs : List ℕ) (g : ℕ → ℕ) (out : List ℕ) → length out ≡ 16 → Filled xs g 0 out
filled_none xs g out h = record { size = h; made = λ k l. absurd (not-suc-le-zero l) }

pub filled_more : {xs : List ℕ} {g : ℕ → ℕ} {i : ℕ} {out : List ℕ} (p : ℕ) → Filled xs g i out → i < 16 → p ≡ g i
    → Filled xs g (i + 1) (set out i (get_or xs p 0))
filled_more {xs} {g} {i} {out} p t l e =
    record { size = simp length-set t.size; made = λ k u. go k u (ℕ_discrete k i) }
  where
    go : (k : ℕ) → k < i + 1 → Dec (k ≡ i) → get_or (set out i (get_or xs p 0)) k 0 ≡ get_or xs (g k) 0
    go k u (yes q) = rw (q, e) (get_or-set_same out i (get_or xs (g i) 0) 0 (omega (arith, t.size)))
    go k u (no n) = get_or-set_other out i k (get_or xs p 0) 0 n ∙ t.made k (omega arith)

-- two at a time
two : (i : ℕ) → 2 * i + 1 + 1 ≡ 2 * (i + 1)
two i = omega arith

pub filled_two : {xs : List ℕ} {g : ℕ → ℕ} {i : ℕ} {out : List ℕ} (p q : ℕ) → Filled xs g (2 * i) out → i < 8 → p ≡ g (2 * i) → q ≡ g (2 * i + 1)
    → Filled xs g (2 * (i + 1)) (set (set out (2 * i) (get_or xs p 0)) (2 * i + 1) (get_or xs q 0))
filled_two {xs} {g} {i} {out} p q t l e f =
    rw (← two i) (filled_more {i = 2 * i + 1} q (filled_more {i = 2 * i} p t (omega arith) e) (omega arith) f)

pub filled_all : {xs : List ℕ} {g : ℕ → ℕ} {i : ℕ} {out : List ℕ} → Filled xs g i out → 16 ≤ i → out ≡ loaded xs (upto g 16)
filled_all {xs} {g} {i} {out} t u = loads_by g 16 xs out t.size (λ k l. t.made k (omega arith))

-- ---- the same of a buffer of 32 whose halves are filled side by side

pub record Twice (xs : List ℕ) (g : ℕ → ℕ) (i : ℕ) (w : List ℕ) : Type 0 where
  pub size : length w ≡ 32
  pub made : (k : ℕ) → k < 32 → k % 16 < i → get_or w k 0 ≡ get_or xs (g k) 0

pub twice_none : (xs : List ℕ) (g : ℕ → ℕ) (w : List ℕ) → length w ≡ 32 → Twice xs g 0 w
twice_none xs g w h = record { size = h; made = λ k l u. absurd (not-suc-le-zero u) }

pub twice_more : {xs : List ℕ} {g : ℕ → ℕ} {i : ℕ} {w : List ℕ} (p : ℕ) → Twice xs g i w → i < 16 → p ≡ g i → p ≡ g (16 + i)
    → Twice xs g (i + 1) (set (set w i (get_or xs p 0)) (16 + i) (get_or xs p 0))
twice_more {xs} {g} {i} {w} p t h low high =
    record { size = simp length-set t.size; made = λ k l u. go k l u (ℕ_discrete k (16 + i)) (ℕ_discrete k i) }
  where
    go : (k : ℕ) → k < 32 → k % 16 < i + 1 → Dec (k ≡ 16 + i) → Dec (k ≡ i)
        → get_or (set (set w i (get_or xs p 0)) (16 + i) (get_or xs p 0)) k 0 ≡ get_or xs (g k) 0
    go k l u (yes q) d =
        rw (q, ← high) (get_or-set_same (set w i (get_or xs p 0)) (16 + i) (get_or xs p 0) 0 (simp length-set (omega (arith, t.size))))
    go k l u (no n) (yes q) =
        get_or-set_other (set w i (get_or xs p 0)) (16 + i) k (get_or xs p 0) 0 n
        ∙ (rw (q, ← low) (get_or-set_same w i (get_or xs p 0) 0 (omega (arith, t.size))))
    go k l u (no n) (no m) =
        get_or-set_other (set w i (get_or xs p 0)) (16 + i) k (get_or xs p 0) 0 n
        ∙ get_or-set_other w i k (get_or xs p 0) 0 m
        ∙ t.made k l (omega arith)

pub twice_all : {xs : List ℕ} {g : ℕ → ℕ} {i : ℕ} {w : List ℕ} → Twice xs g i w → 16 ≤ i → w ≡ loaded xs (upto g 32)
twice_all {xs} {g} {i} {w} t u = loads_by g 32 xs w t.size (λ k l. t.made k l (omega arith))

-- ---- the stores from the i-th on, done to the store as it is, are all of them done to the first one

pub record Left (old vs : List ℕ) (g : ℕ → ℕ) (i : ℕ) (ds : List ℕ) : Type 0 where
  pub size : length ds ≡ 8192
  pub rest : stored ds (drop i (upto g 16)) (drop i vs) ≡ stored old (upto g 16) vs

pub left_all : (old vs : List ℕ) (g : ℕ → ℕ) → length old ≡ 8192 → Left old vs g 0 old
left_all old vs g h = record { size = h; rest = refl }

pub left_less : {old vs : List ℕ} {g : ℕ → ℕ} {i : ℕ} {ds : List ℕ} (p v : ℕ) → Left old vs g i ds → i < 16 → p ≡ g i
    → v ≡ get_or vs i 0 → Left old vs g (i + 1) (set ds p v)
left_less {old} {vs} {g} {i} {ds} p v t l q e =
    let m = length_upto g 16 in
    record {
      size = simp length-set t.size;
      rest = rw (q, e, ← get_d_upto g 16 i l, ← stored_next ds (upto g 16) vs i (omega arith)) t.rest;
    }

pub left_two : {old vs : List ℕ} {g : ℕ → ℕ} {i : ℕ} {ds : List ℕ} (p q v w : ℕ) → Left old vs g (2 * i) ds → i < 8
    → p ≡ g (2 * i) → q ≡ g (2 * i + 1) → v ≡ get_or vs (2 * i) 0 → w ≡ get_or vs (2 * i + 1) 0
    → Left old vs g (2 * (i + 1)) (set (set ds p v) q w)
left_two {old} {vs} {g} {i} {ds} p q v w t l e f x y =
    rw (← two i) (left_less {i = 2 * i + 1} q w (left_less {i = 2 * i} p v t (omega arith) e x) (omega arith) f y)

pub left_none : {old vs : List ℕ} {g : ℕ → ℕ} {i : ℕ} {ds : List ℕ} → Left old vs g i ds → 16 ≤ i → ds ≡ stored old (upto g 16) vs
left_none {old} {vs} {g} {i} {ds} t u =
    let m = length_upto g 16 in
    let z : drop i (upto g 16) ≡ [] = drop_of_length-le (upto g 16) {i = i} (omega arith) in
    sym (stored_none ds (drop i vs)) ∙ ap (λ (l : List ℕ). stored ds l (drop i vs)) (sym z) ∙ t.rest
