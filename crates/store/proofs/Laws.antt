-- Laws of loads and stores over any list of places.
use mathlib.Core.Path.{◌≡◌, refl, sym, ap, ◌∙◌}
use mathlib.Core.List.{List, [], ◌∷◌, map}
use Prim.Native.Nat.{ℕ, zero, suc, ◌+◌, ◌≤◌, ◌<◌}
use native.Mathlib.Omega.{arith}
use native.Mathlib.Nat.{not-suc-le-zero, le_of_suc-le-suc, zero-add, add-zero, add-suc, suc-add}
use native.Mathlib.Numerals.{add-one}
use lib.ListN.{length, get_or, set, drop, length-map, length-set}
use lib.Seq.{ext_get_or, drop-cons, drop-drop, get_or-drop, get_or-set_same, get_or-set_other}
use Rattle.banks.specs.Line.{from}
use Rattle.banks.proofs.Places.{length_from, get_d_from}
use Rattle.store.specs.Inner.Steps.{upto}
use Rattle.store.specs.Inner.Loads.{loaded, stored}

length_loaded : (ds ps : List ℕ) → length (loaded ds ps) ≡ length ps
unfolding loaded
length_loaded ds ps = length-map ps (λ p. get_or ds p 0)

get_d_loaded : (ds ps : List ℕ) (i : ℕ) → i < length ps → get_or (loaded ds ps) i 0 ≡ get_or ds (get_or ps i 0) 0
unfolding loaded
get_d_loaded ds [] i h = absurd (not-suc-le-zero h)
get_d_loaded ds (p ∷ ps) zero h = refl
get_d_loaded ds (p ∷ ps) (suc i) h = get_d_loaded ds ps i (le_of_suc-le-suc h)

stored_cons : (ds : List ℕ) (p : ℕ) (ps vs : List ℕ) → stored ds (p ∷ ps) vs ≡ stored (set ds p (get_or vs 0 0)) ps (drop 1 vs)
unfolding stored
stored_cons ds p ps vs = refl

-- one store more, with the rest to do
pub stored_next : (ds ps vs : List ℕ) (i : ℕ) → i < length ps
    → stored ds (drop i ps) (drop i vs) ≡ stored (set ds (get_or ps i 0) (get_or vs i 0)) (drop (i + 1) ps) (drop (i + 1) vs)
stored_next ds ps vs i h =
    rw (drop-cons ps i 0 h, stored_cons ds (get_or ps i 0) (drop (suc i) ps) (drop i vs), get_or-drop i vs 0 0, drop-drop 1 i vs, add-zero i, add-one i)

pub stored_none : (ds vs : List ℕ) → stored ds [] vs ≡ ds
unfolding stored
stored_none ds vs = refl

pub stored_along : (ds vs ps qs r : List ℕ) → r ≡ stored ds ps vs → ps ≡ qs → r ≡ stored ds qs vs
stored_along ds vs ps qs r p q = rw q at p

pub length_stored : (ds ps vs : List ℕ) → length (stored ds ps vs) ≡ length ds
unfolding stored
length_stored ds [] vs = refl
length_stored ds (p ∷ ps) vs = length_stored (set ds p (get_or vs 0 0)) ps (drop 1 vs) ∙ length-set ds p (get_or vs 0 0)

-- ---- the places g 0, g 1, ..

module _ (g : ℕ → ℕ) (n : ℕ) where
  pub length_upto : length (upto g n) ≡ n
  unfolding upto
  length_upto = simp length-map (length_from 0 n)

  pub get_d_upto : (i : ℕ) → i < n → get_or (upto g n) i 0 ≡ g i
  unfolding upto
  get_d_upto i h = get_d_from g 0 n i h ∙ ap g (zero-add i)

  pub length_loads : (ds : List ℕ) → length (loaded ds (upto g n)) ≡ n
  length_loads ds = length_loaded ds (upto g n) ∙ length_upto

  pub get_d_loads : (ds : List ℕ) (i : ℕ) → i < n → get_or (loaded ds (upto g n)) i 0 ≡ get_or ds (g i) 0
  get_d_loads ds i h =
      let m = length_upto in
      get_d_loaded ds (upto g n) i (omega arith) ∙ ap (λ (p : ℕ). get_or ds p 0) (get_d_upto i h)

  pub loads_by : (ds out : List ℕ) → length out ≡ n → ((i : ℕ) → i < n → get_or out i 0 ≡ get_or ds (g i) 0) → out ≡ loaded ds (upto g n)
  loads_by ds out e h =
      ext_get_or 0 out (loaded ds (upto g n)) (e ∙ sym (length_loads ds))
      (λ i l. let k : i < n = omega arith in h i k ∙ sym (get_d_loads ds i k))

-- loads from what was loaded
pub loads_loads : (g h : ℕ → ℕ) (m n : ℕ) (ds : List ℕ) → ((i : ℕ) → i < n → h i < m)
    → loaded (loaded ds (upto g m)) (upto h n) ≡ loaded ds (upto (λ i. g (h i)) n)
loads_loads g h m n ds u =
    loads_by (λ i. g (h i)) n ds (loaded (loaded ds (upto g m)) (upto h n)) (length_loads h n (loaded ds (upto g m)))
    (λ i l. get_d_loads h n (loaded ds (upto g m)) i l ∙ get_d_loads g m ds (h i) (u i l))

-- ---- what a store leaves at a place: the old byte where it has no such place, the i-th of its own where that place is its i-th alone

untouched : (g : ℕ → ℕ) (s n : ℕ) (ds vs : List ℕ) (p : ℕ) → ((j : ℕ) → s ≤ j → j < s + n → p ≡ g j → ⊥)
    → get_or (stored ds (map g (from s n)) vs) p 0 ≡ get_or ds p 0
unfolding stored
untouched g s zero ds vs p h = refl
untouched g s (suc n) ds vs p h =
    untouched g (suc s) n (set ds (g s) (get_or vs 0 0)) (drop 1 vs) p (λ j a l. h j (omega arith) (omega arith))
    ∙ get_or-set_other ds (g s) p (get_or vs 0 0) 0 (h s (omega arith) (omega arith))

touched : (g : ℕ → ℕ) (s n : ℕ) (ds vs : List ℕ) (i p : ℕ) → i < n → p ≡ g (s + i) → ((j : ℕ) → j < s + n → p ≡ g j → s + i ≡ j)
    → p < length ds
    → get_or (stored ds (map g (from s n)) vs) p 0 ≡ get_or vs i 0
unfolding stored
touched g s zero ds vs i p l e one h = absurd (not-suc-le-zero l)
touched g s (suc n) ds vs zero p l e one h =
    let q : p ≡ g s = e ∙ ap g (add-zero s) in
    untouched g (suc s) n (set ds (g s) (get_or vs 0 0)) (drop 1 vs) p
    (λ j a u f. let z : s + 0 ≡ j = one j (omega arith) f in omega arith)
    ∙ (rw (← q) (get_or-set_same ds p (get_or vs 0 0) 0 h))
touched g s (suc n) ds vs (suc i) p l e one h =
    touched g (suc s) n (set ds (g s) (get_or vs 0 0)) (drop 1 vs) i p (le_of_suc-le-suc l) (e ∙ ap g (add-suc s i ∙ sym (suc-add s i)))
    (λ j u f. let z : s + suc i ≡ j = one j (omega arith) f in omega arith)
    (simp length-set h)
    ∙ get_or-drop 1 vs i 0
    ∙ ap (λ (k : ℕ). get_or vs k 0) (omega arith)

-- ---- the same of the places g 0, g 1, ..

module _ (g : ℕ → ℕ) (n : ℕ) (ds vs : List ℕ) (p : ℕ) where
  pub stored_not : ((j : ℕ) → j < n → p ≡ g j → ⊥) → get_or (stored ds (upto g n) vs) p 0 ≡ get_or ds p 0
  unfolding upto
  stored_not h = untouched g 0 n ds vs p (λ j a l. h j (omega arith))

  pub stored_at : (i : ℕ) → i < n → p ≡ g i → ((j : ℕ) → j < n → p ≡ g j → i ≡ j) → p < length ds
      → get_or (stored ds (upto g n) vs) p 0 ≡ get_or vs i 0
  unfolding upto
  stored_at i l e one h =
      touched g 0 n ds vs i p l (e ∙ ap g (sym (zero-add i))) (λ j u q. zero-add i ∙ one j (omega arith) q) h
