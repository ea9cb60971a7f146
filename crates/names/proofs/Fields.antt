-- Fields that lie apart: a word put together from them shows each of them again.
use mathlib.Core.Path.{◌≡◌, refl, ap, ◌∙◌, sym}
use mathlib.Core.Bool.{Bool, true, false, cond, ◌&&◌, ◌||◌}
use mathlib.Core.List.{List, [], ◌∷◌}
use mathlib.Core.Logic.{◌⊎◌, inl, inr, ⊎_elim}
use Prim.Native.Nat.{ℕ, zero, suc, ◌+◌, ◌*◌, ◌-◌, ◌/◌, ◌%◌, ◌^◌, ◌<◌, ◌≤◌}
use native.Mathlib.Nat.{mod-lt, mod-eq_of_lt, div-eq_of_lt, zero-div, zero-mod, one-le-pow, div-div-eq-div-mul, add-mul-div_right, mul-add-div_right, add-mul-mod_self_right, mul-add-mod_self_right, pow-zero, pow-suc, div-add-mod', mul_assoc, mul_comm, mul-one}
use native.Mathlib.Omega.{arith}
use borrow.Author.Tests.{ltb-true}
use lib.Dec.{T, ltb, leb, leb→le, eqb→eq}
use Rattle.names.specs.Line.{Kind, number, flags, signed, lohi, allvc, Operand, kept, value_of, texts_of, fields_of}
use Rattle.names.proofs.Tests.{and_left, and_right}
use Rattle.names.proofs.Gather.{fine}

abbrev pub cut : ℕ → ℕ → ℕ → ℕ
cut at n x = x / 2 ^ at % 2 ^ n

pow_add : (m n : ℕ) → 2 ^ (m + n) ≡ 2 ^ m * 2 ^ n
pow_add m zero = simp (pow-zero, mul-one) (ap (λ (x : ℕ). 2 ^ x) (omega arith))
pow_add m (suc n) = ap (λ (x : ℕ). 2 ^ x) (omega arith) ∙ pow-suc 2 (m + n) ∙ ap (λ (x : ℕ). x * 2) (pow_add m n) ∙ mul_assoc (2 ^ m) (2 ^ n) 2 ∙ ap (λ (x : ℕ). 2 ^ m * x) (sym (pow-suc 2 n))

pow_split : (s t : ℕ) → s ≤ t → 2 ^ t ≡ 2 ^ s * 2 ^ (t - s)
pow_split s t h = ap (λ (x : ℕ). 2 ^ x) (omega arith) ∙ pow_add s (t - s)

pow_pos : (n : ℕ) → 0 < 2 ^ n
pow_pos n = one-le-pow n 2 (omega arith)

-- with P and Q for the powers: y is a multiple of Q
module _ (q v : ℕ) (pos : 0 < q) (l : v < q) (y : ℕ) (z : y % q ≡ 0) where
  whole : y / q * q ≡ y
  whole = omega (arith, div-add-mod' y q)

  over : (v + y) / q ≡ y / q
  over = ap (λ (x : ℕ). (v + x) / q) (sym whole) ∙ add-mul-div_right v (y / q) pos ∙ omega (arith, div-eq_of_lt l)

  within : (v + y) % q ≡ v
  within = ap (λ (x : ℕ). (v + x) % q) (sym whole) ∙ add-mul-mod_self_right v (y / q) q ∙ mod-eq_of_lt l

module _ (t m v x : ℕ) (l : v < 2 ^ m) (z : cut t m x ≡ 0) where
  lead : (v * 2 ^ t + x) / 2 ^ t ≡ v + x / 2 ^ t
  lead = mul-add-div_right (pow_pos t) v x

  pub self : cut t m (v * 2 ^ t + x) ≡ v
  self = rw lead (within (2 ^ m) v (pow_pos m) l (x / 2 ^ t) z)

  pub above : (s n : ℕ) → t + m ≤ s → cut s n (v * 2 ^ t + x) ≡ cut s n x
  above s n h =
      let e : 2 ^ s ≡ 2 ^ t * 2 ^ m * 2 ^ (s - (t + m)) = pow_split (t + m) s h ∙ ap (λ (p : ℕ). p * 2 ^ (s - (t + m))) (pow_add t m) in
      ap (λ (p : ℕ). p % 2 ^ n) (down (v * 2 ^ t + x) e ∙ ap (λ (p : ℕ). p / 2 ^ m / 2 ^ (s - (t + m))) lead ∙ ap (λ (p : ℕ). p / 2 ^ (s - (t + m))) (over (2 ^ m) v (pow_pos m) l (x / 2 ^ t) z) ∙ sym (down x e))
    where
      down : (y : ℕ) → 2 ^ s ≡ 2 ^ t * 2 ^ m * 2 ^ (s - (t + m)) → y / 2 ^ s ≡ y / 2 ^ t / 2 ^ m / 2 ^ (s - (t + m))
      down y e = ap (λ (p : ℕ). y / p) e ∙ sym (div-div-eq-div-mul y (2 ^ t * 2 ^ m) (2 ^ (s - (t + m)))) ∙ ap (λ (p : ℕ). p / 2 ^ (s - (t + m))) (sym (div-div-eq-div-mul y (2 ^ t) (2 ^ m)))

pub under : (t v x s n : ℕ) → s + n ≤ t → cut s n (v * 2 ^ t + x) ≡ cut s n x
under t v x s n h =
    let r : ℕ = 2 ^ (t - (s + n)) in
    let e : 2 ^ t ≡ r * 2 ^ n * 2 ^ s = pow_split (s + n) t h ∙ ap (λ (p : ℕ). p * r) (pow_add s n) ∙ mul_comm (2 ^ s * 2 ^ n) r ∙ ap (λ (p : ℕ). r * p) (mul_comm (2 ^ s) (2 ^ n)) ∙ sym (mul_assoc r (2 ^ n) (2 ^ s)) in
    let f : v * 2 ^ t ≡ v * r * 2 ^ n * 2 ^ s = ap (λ (p : ℕ). v * p) e ∙ sym (mul_assoc v (r * 2 ^ n) (2 ^ s)) ∙ ap (λ (p : ℕ). p * 2 ^ s) (sym (mul_assoc v r (2 ^ n))) in
    ap (λ (p : ℕ). (p + x) / 2 ^ s % 2 ^ n) f
    ∙ ap (λ (p : ℕ). p % 2 ^ n) (mul-add-div_right (pow_pos s) (v * r * 2 ^ n) x)
    ∙ mul-add-mod_self_right (v * r) (2 ^ n) (x / 2 ^ s)

abbrev pub apart : ℕ → ℕ → ℕ → ℕ → Bool
apart s n t m = leb (s + n) t || leb (t + m) s

pub or_cases : (a b : Bool) → T (a || b) → T a ⊎ T b
or_cases true b t = inl tt
or_cases false b t = inr t

-- a field apart from the one put in keeps its value
pub keeps : (t m v x s n : ℕ) → v < 2 ^ m → cut t m x ≡ 0 → T (apart s n t m) → cut s n (v * 2 ^ t + x) ≡ cut s n x
keeps t m v x s n l z a =
    ⊎_elim
    (λ (h : T (leb (s + n) t)). under t v x s n (leb→le (s + n) t h))
    (λ (h : T (leb (t + m) s)). above t m v x l z s n (leb→le (t + m) s h))
    (or_cases (leb (s + n) t) (leb (t + m) s) a)

-- ---- over a row's operands

abbrev pub free : ℕ → ℕ → List Operand → Bool
free s n [] = true
free s n (o ∷ os) = apart s n o.at o.bits && free s n os

abbrev pub disjoint : List Operand → Bool
disjoint [] = true
disjoint (o ∷ os) = free o.at o.bits os && disjoint os

abbrev pub fines : List Operand → Bool
fines [] = true
fines (o ∷ os) = fine o.kind o.bits && fines os

kept_small : (k : Kind) (n v : ℕ) → T (fine k n) → v < 2 ^ n → kept k v < 2 ^ n
kept_small (number b p) n v f h = h
kept_small (flags p) n v f h = rw (eqb→eq n 3 f) (go (ltb v 4) refl)
  where
    go : (t : Bool) → ltb v 4 ≡ t → cond t v 7 < 2 ^ 3
    go true e = omega (arith, ltb-true v 4 e)
    go false e = omega arith
kept_small signed n v f h = h
kept_small lohi n v f h = h
kept_small allvc n v f h = h

pub value_small : (o : Operand) (w : ℕ) → T (fine o.kind o.bits) → value_of o w < 2 ^ o.bits
unfolding value_of
value_small o w f = kept_small o.kind o.bits (cut o.at o.bits w) f (mod-lt (w / 2 ^ o.at) (pow_pos o.bits))

pub free_zero : (os : List Operand) (w : ℕ) → T (fines os) → T (disjoint os) → (s n : ℕ) → T (free s n os) → cut s n (fields_of os w) ≡ 0
unfolding fields_of
free_zero [] w f d s n a = rw (zero-div, zero-mod) refl
free_zero (o ∷ os) w f d s n a =
    let f' = and_right (fine o.kind o.bits) (fines os) f in
    let d' = and_right (free o.at o.bits os) (disjoint os) d in
    keeps o.at o.bits (value_of o w) (fields_of os w) s n (value_small o w (and_left (fine o.kind o.bits) (fines os) f))
    (free_zero os w f' d' o.at o.bits (and_left (free o.at o.bits os) (disjoint os) d))
    (and_left (apart s n o.at o.bits) (free s n os) a)
    ∙ free_zero os w f' d' s n (and_right (apart s n o.at o.bits) (free s n os) a)

-- N shows each operand's value of w
abbrev pub Shows : List Operand → ℕ → ℕ → Type 0
Shows [] x w = Unit {0}
Shows (o ∷ os) x w = (cut o.at o.bits x ≡ value_of o w) × Shows os x w

apart_sym : (s n t m : ℕ) → T (apart s n t m) → T (apart t m s n)
apart_sym s n t m a = go (leb (s + n) t) (leb (t + m) s) a
  where
    go : (a b : Bool) → T (a || b) → T (b || a)
    go true true t = tt
    go true false t = tt
    go false true t = tt
    go false false t = t

pub lifted : (os : List Operand) (t m v x w : ℕ) → v < 2 ^ m → cut t m x ≡ 0 → T (free t m os) → Shows os x w → Shows os (v * 2 ^ t + x) w
lifted [] t m v x w l z a s = tt
lifted (o ∷ os) t m v x w l z a s = (
  keeps t m v x o.at o.bits l z (apart_sym t m o.at o.bits (and_left (apart t m o.at o.bits) (free t m os) a)) ∙ s.0,
  lifted os t m v x w l z (and_right (apart t m o.at o.bits) (free t m os) a) s.1,
)

pub shows : (os : List Operand) (w : ℕ) → T (fines os) → T (disjoint os) → Shows os (fields_of os w) w
unfolding fields_of
shows [] w f d = tt
shows (o ∷ os) w f d =
    let f' = and_right (fine o.kind o.bits) (fines os) f in
    let d' = and_right (free o.at o.bits os) (disjoint os) d in
    let l = value_small o w (and_left (fine o.kind o.bits) (fines os) f) in
    let a = and_left (free o.at o.bits os) (disjoint os) d in
    let z = free_zero os w f' d' o.at o.bits a in
    (self o.at o.bits (value_of o w) (fields_of os w) l z, lifted os o.at o.bits (value_of o w) (fields_of os w) w l z a (shows os w f' d'))

kept_twice : (k : Kind) (v : ℕ) → kept k (kept k v) ≡ kept k v
kept_twice (number b p) v = refl
kept_twice (flags p) v = go (ltb v 4) refl
  where
    go : (t : Bool) → ltb v 4 ≡ t → cond (ltb (cond t v 7) 4) (cond t v 7) 7 ≡ cond t v 7
    go true e = rw e refl
    go false e = refl
kept_twice signed v = refl
kept_twice lohi v = refl
kept_twice allvc v = refl

same_value : (o : Operand) (x w : ℕ) → cut o.at o.bits x ≡ value_of o w → value_of o x ≡ value_of o w
unfolding value_of
same_value o x w e = ap (kept o.kind) e ∙ kept_twice o.kind (cut o.at o.bits w)

pub same_texts : (os : List Operand) (x w : ℕ) → Shows os x w → texts_of os x ≡ texts_of os w
unfolding texts_of
same_texts [] x w s = refl
same_texts (o ∷ os) x w s = rw (same_value o x w s.0, same_texts os x w s.1) refl

pub same_fields : (os : List Operand) (x w : ℕ) → Shows os x w → fields_of os x ≡ fields_of os w
unfolding fields_of
same_fields [] x w s = refl
same_fields (o ∷ os) x w s = rw (same_value o x w s.0, same_fields os x w s.1) refl
