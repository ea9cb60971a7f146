-- Twelve bytes of those that are left over and those that come after them.
use mathlib.Core.Path.{◌≡◌, refl, sym, ap, ap₂, ◌∙◌}
use mathlib.Core.Bool.{Bool, true, false, cond}
use mathlib.Core.List.{List, [], ◌++◌}
use Prim.Native.Nat.{ℕ, zero, suc, ◌+◌, ◌-◌, ◌≤◌, ◌<◌}
use native.Mathlib.Omega.{arith}
use native.Mathlib.Nat.{not-suc-le-zero, min-eq_left, min-eq_right, min-le_left, min-le_right}
use native.Mathlib.Decide.{ℕ_discrete, dec_lt}
use borrow.Author.Tests.{ltb-true, ltb-false}
use Rattle.std.specs.Prelude.{min}
use lib.Dec.{ltb}
use lib.ListN.{length, get_or, take, drop, set, length-set, length-append, length-drop, get_or-append, get_or-eq_default}
use lib.Seq.{length-take-le, take_all, take_at, drop-drop, drop-append-add, take-append-add, get_or-take, get_or-drop, get_or-append-add, get_or-set_same, get_or-set_other, ext_get_or, paste}
use Rattle.parts.specs.Run.{twelve}

-- ---- a loop that fills an array of n from the first on

-- the first i are those of l
pub record Filled (n : ℕ) (l : List ℕ) (i : ℕ) (out : List ℕ) : Type 0 where
  pub size : length out ≡ n
  pub made : (k : ℕ) → k < i → get_or out k 0 ≡ get_or l k 0

pub filled_none : {n : ℕ} (l out : List ℕ) → length out ≡ n → Filled n l 0 out
filled_none l out h = record { size = h; made = λ k u. absurd (not-suc-le-zero u) }

pub filled_more : {l out : List ℕ} {n i x : ℕ} → Filled n l i out → i < n → x ≡ get_or l i 0 → Filled n l (i + 1) (set out i x)
filled_more {l} {out} {n} {i} {x} t h e = record { size = simp length-set t.size; made = λ k u. go k u (ℕ_discrete k i) }
  where
    go : (k : ℕ) → k < i + 1 → Dec (k ≡ i) → get_or (set out i x) k 0 ≡ get_or l k 0
    go k u (yes q) = rw q (get_or-set_same out i x 0 (omega (arith, t.size)) ∙ e)
    go k u (no m) = get_or-set_other out i k x 0 m ∙ t.made k (omega arith)

-- all of them
pub filled_copy : {l out : List ℕ} {n i : ℕ} → Filled n l i out → n ≤ i → length l ≡ n → out ≡ l
filled_copy {l} {out} {n} {i} t u e = ext_get_or 0 out l (t.size ∙ sym e) (λ k h. t.made k (omega (arith, t.size)))

-- ---- twelve, of a list that may be shorter or longer

twelve_at : (l : List ℕ) (k : ℕ) → k < 12 → get_or (twelve l) k 0 ≡ get_or l k 0
twelve_at l zero h = refl
twelve_at l (suc zero) h = refl
twelve_at l (suc (suc zero)) h = refl
twelve_at l (suc (suc (suc zero))) h = refl
twelve_at l (suc (suc (suc (suc zero)))) h = refl
twelve_at l (suc (suc (suc (suc (suc zero))))) h = refl
twelve_at l (suc (suc (suc (suc (suc (suc zero)))))) h = refl
twelve_at l (suc (suc (suc (suc (suc (suc (suc zero))))))) h = refl
twelve_at l (suc (suc (suc (suc (suc (suc (suc (suc zero)))))))) h = refl
twelve_at l (suc (suc (suc (suc (suc (suc (suc (suc (suc zero))))))))) h = refl
twelve_at l (suc (suc (suc (suc (suc (suc (suc (suc (suc (suc zero)))))))))) h = refl
twelve_at l (suc (suc (suc (suc (suc (suc (suc (suc (suc (suc (suc zero))))))))))) h = refl
twelve_at l (suc (suc (suc (suc (suc (suc (suc (suc (suc (suc (suc (suc k)))))))))))) h = absurd (omega arith)

pub filled_twelve : {l out : List ℕ} {i : ℕ} → Filled 12 l i out → 12 ≤ i → out ≡ twelve l
filled_twelve {l} {out} {i} t u =
    ext_get_or 0 out (twelve l) t.size (λ k h. t.made k (omega (arith, t.size)) ∙ sym (twelve_at l k (rw t.size at h)))

-- of twelve the first, as many as a shorter list has
pub take_twelve : (l : List ℕ) → length l < 12 → take (length l) (twelve l) ≡ l
take_twelve l h =
    let e : length (take (length l) (twelve l)) ≡ length l = length-take-le (length l) (twelve l) (omega arith) in
    ext_get_or 0 (take (length l) (twelve l)) l e (λ k u. get_or-take (length l) (twelve l) k 0 (omega (arith, e)) ∙ twelve_at l k (omega (arith, e)))

-- twelve bytes of a list that has them
pub twelve_first : (l : List ℕ) → 12 ≤ length l → twelve l ≡ take 12 l
twelve_first l h =
    let t : Filled 12 l 12 (take 12 l) = record { size = length-take-le 12 l h; made = λ k u. get_or-take 12 l k 0 u } in
    sym (filled_twelve t (omega arith))

-- ---- bytes put down in twelve zeros

-- a list that has no more than twelve, with zeros behind it
padded : (l : List ℕ) → length l ≤ 12 → l ++ drop (length l) (twelve []) ≡ twelve l
padded l h = filled_twelve {l = l} (record { size = length-append l (drop (length l) (twelve [])) ∙ rw (length-drop (length l) (twelve [])) (omega arith); made = λ k u. go k u (ltb k (length l)) (ltb-true k (length l)) (ltb-false k (length l)) }) (omega arith)
  where
    go : (k : ℕ) → k < 12 → (t : Bool) → (t ≡ true → k < length l) → (t ≡ false → length l ≤ k) → get_or (l ++ drop (length l) (twelve [])) k 0 ≡ get_or l k 0
    go k u true f g = get_or-append l (drop (length l) (twelve [])) 0 k (f refl)
    go k u false f g =
        let e : length l + (k - length l) ≡ k = omega (arith, g refl) in
        ap (λ (j : ℕ). get_or (l ++ drop (length l) (twelve [])) j 0) (sym e)
        ∙ get_or-append-add l (drop (length l) (twelve [])) (k - length l) 0
        ∙ get_or-drop (length l) (twelve []) (k - length l) 0
        ∙ ap (λ (j : ℕ). get_or (twelve []) j 0) e
        ∙ twelve_at [] k u
        ∙ sym (get_or-eq_default l 0 (g refl))

-- of those that come after l, no more are looked at than there is room for
fitting : (l bs : List ℕ) (n : ℕ) → length l ≤ 12 → n ≡ min (length bs) (12 - length l) → twelve (l ++ take n bs) ≡ twelve (l ++ bs)
fitting l bs n h q = elim (dec_lt (length bs) (12 - length l)) [ yes u ↦ all u | no u ↦ some (omega (arith, u)) ]
  where
    all : length bs < 12 - length l → twelve (l ++ take n bs) ≡ twelve (l ++ bs)
    all u = ap (λ (m : List ℕ). twelve (l ++ m)) (take_all n bs (omega (arith, q ∙ min-eq_left (omega (arith, u)))))

    some : 12 - length l ≤ length bs → twelve (l ++ take n bs) ≡ twelve (l ++ bs)
    some u =
        let f : n ≡ 12 - length l = q ∙ min-eq_right u in
        let e : length l + n ≡ 12 = omega (arith, f) in
        let m : List ℕ = l ++ take n bs in
        let size : length m ≡ 12 = length-append l (take n bs) ∙ rw (length-take-le n bs (omega (arith, f, u))) e in
        let all : take 12 (l ++ bs) ≡ m = ap (λ (k : ℕ). take k (l ++ bs)) (sym e) ∙ take-append-add l bs n in
        twelve_first m (omega (arith, size)) ∙ take_all 12 m (omega (arith, size)) ∙ sym all ∙ sym (twelve_first (l ++ bs) (rw (length-append l bs) (omega (arith, u))))

module _ (held bs : List ℕ) (count n : ℕ) (size : length held ≡ 12) (few : count ≤ 12) where
  -- those that are left over are as many as their count says
  pub left_length : length (take count held) ≡ count
  left_length = length-take-le count held (omega (arith, size))

  -- those that are left over, and then as many of the others as there is room for
  module _ (q : n ≡ min (length bs) (12 - count)) where
    pub put_fits : (n ≤ length bs) × (count + n ≤ 12)
    put_fits = (omega (arith, q, min-le_left (length bs) (12 - count)), omega (arith, q, min-le_right (length bs) (12 - count), few))

    pub put_twice : paste (paste (twelve []) 0 held count) count bs n ≡ twelve (take count held ++ bs)
    put_twice =
        let l : List ℕ = take count held in
        let z : List ℕ = drop count (twelve []) in
        let e : 0 + count ≡ count = omega arith in
        let f : length (l ++ take n bs) ≡ count + n = length-append l (take n bs) ∙ ap₂ (λ (x y : ℕ). x + y) left_length (length-take-le n bs put_fits.0) in
        let tail : drop (count + n) (l ++ z) ≡ drop (length (l ++ take n bs)) (twelve []) =
        ap (λ (j : ℕ). drop (j + n) (l ++ z)) (sym left_length) ∙ drop-append-add l z n ∙ drop-drop n count (twelve []) ∙ ap (λ (j : ℕ). drop j (twelve [])) (sym f) in
        ap (λ (j : ℕ). paste (l ++ drop j (twelve [])) count bs n) e
        ∙ ap₂ (λ (x y : List ℕ). x ++ take n bs ++ y) (take_at l z count left_length) tail
        ∙ padded (l ++ take n bs) (omega (arith, f, put_fits.1))
        ∙ fitting l bs n (omega (arith, left_length, few)) (rw left_length q)
