-- Packed texts: a numeral's digits one after the other, and the bytes taken out again.
use mathlib.Core.Path.{◌≡◌, refl, ap, ◌∙◌, sym}
use mathlib.Core.Bool.{Bool, true, false, cond}
use mathlib.Core.List.{List, [], ◌∷◌, ◌++◌, append_assoc}
use Prim.Native.Nat.{ℕ, suc, ◌+◌, ◌*◌, ◌/◌, ◌%◌, ◌<◌}
use native.Mathlib.Nat.{div-eq_of_lt, mod-eq_of_lt, mod-lt, div-add-mod'}
use native.Mathlib.Decide.{ℕ_discrete}
use native.Mathlib.Omega.{arith}
use borrow.Author.Tests.{ltb-true, ltb-false, lt-ltb, ne_eqb}
use lib.Dec.{ltb, eqb}
use Rattle.names.specs.Line.{digit, numeral}
use Rattle.names.specs.Inner.Code.{packed, lead_of, last_hex, last_of, unpacked}

pub packed_append : (n : ℕ) (s t : List ℕ) → packed n (s ++ t) ≡ packed (packed n s) t
unfolding packed
packed_append n [] t = refl
packed_append n (b ∷ s) t = packed_append (n * 256 + b) s t

-- ---- digits one behind the other: one that would be a leading zero is left out

-- the digits of m, none where it is 0
abbrev rest : ℕ → ℕ → ℕ → List ℕ
rest k b m = cond (eqb m 0) [] (numeral k b m)

module _ (p k b : ℕ) (pos : 0 < b) where
  last_case : (n : ℕ) (t : Bool) → ltb n b ≡ t
      → packed p (cond t (digit n ∷ []) (numeral k b (n / b) ++ digit (n % b) ∷ [])) ≡ packed p (rest k b (n / b)) * 256 + digit (n % b)
  unfolding packed
  last_case n true e = let l = ltb-true n b e in rw (div-eq_of_lt l, mod-eq_of_lt l) refl
  last_case n false e =
      let z : (n / b ≡ 0 → ⊥) = λ q. omega (arith, ltb-false n b e, lt_of_div_eq_zero n q) in
      rw (ne_eqb (n / b) 0 z) (packed_append p (numeral k b (n / b)) (digit (n % b) ∷ []))
    where
      lt_of_div_eq_zero : (n : ℕ) → n / b ≡ 0 → n < b
      lt_of_div_eq_zero n q = let e = div-add-mod' n b in omega (arith, mod-lt n {m = b} pos, rw q at e)

  -- a numeral: the digits before the last one, and the last one
  pub last_digit : (n : ℕ) → packed p (numeral (suc k) b n) ≡ packed p (rest k b (n / b)) * 256 + digit (n % b)
  unfolding numeral
  last_digit n = last_case n (ltb n b) refl

lead_case : (p k m : ℕ) → Dec (m ≡ 0) → lead_of (packed p (rest k 16 (m / 16))) m ≡ packed p (rest (suc k) 16 m)
unfolding lead_of packed
lead_case p k m (yes e) = rw e refl
lead_case p k m (no e) = rw (ne_eqb m 0 e) (sym (last_digit p k 16 (omega arith) m))

lead_on : (p k q m : ℕ) → q ≡ packed p (rest k 16 (m / 16)) → lead_of q m ≡ packed p (rest (suc k) 16 m)
lead_on p k q m e = rw e (lead_case p k m (ℕ_discrete m 0))

module _ (p n : ℕ) (h : n < 65536) where
  one : lead_of p (n / 4096) ≡ packed p (rest 1 16 (n / 4096))
  unfolding packed
  one = lead_on p 0 p (n / 4096) (let z : n / 4096 / 16 ≡ 0 = omega arith in rw z refl)

  two : lead_of (lead_of p (n / 4096)) (n / 256) ≡ packed p (rest 2 16 (n / 256))
  two = lead_on p 1 (lead_of p (n / 4096)) (n / 256) (let q : n / 4096 ≡ n / 256 / 16 = omega arith in one ∙ ap (λ (m : ℕ). packed p (rest 1 16 m)) q)

  three : lead_of (lead_of (lead_of p (n / 4096)) (n / 256)) (n / 16) ≡ packed p (rest 3 16 (n / 16))
  three = lead_on p 2 (lead_of (lead_of p (n / 4096)) (n / 256)) (n / 16) (let q : n / 256 ≡ n / 16 / 16 = omega arith in two ∙ ap (λ (m : ℕ). packed p (rest 2 16 m)) q)

  pub hex_whole : last_hex (lead_of p (n / 4096)) n ≡ packed p (numeral 4 16 n)
  unfolding last_hex
  hex_whole = ap (λ (x : ℕ). x * 256 + digit (n % 16)) three ∙ sym (last_digit p 3 16 (omega arith) n)

pub hex_last : (p n : ℕ) → n < 4096 → last_hex p n ≡ packed p (numeral 4 16 n)
unfolding lead_of
hex_last p n h = let z : n / 4096 ≡ 0 = omega arith in let e : lead_of p (n / 4096) ≡ p = rw z refl in ap (λ (x : ℕ). last_hex x n) (sym e) ∙ hex_whole p n (omega arith)

one_digit : (k b m : ℕ) → m < b → numeral (suc k) b m ≡ digit m ∷ []
unfolding numeral
one_digit k b m h = rw (lt-ltb m b h) refl

ten_case : (p m : ℕ) → m < 10 → lead_of p m ≡ packed p (rest 3 10 m)
unfolding lead_of packed
ten_case p m h = let r : m % 16 ≡ m = omega arith in rw (one_digit 2 10 m h, r) (go (eqb m 0))
  where
    go : (t : Bool) → cond t p (p * 256 + digit m) ≡ packed p (cond t [] (digit m ∷ []))
    go true = refl
    go false = refl

pub decimal_whole : (p n : ℕ) → n < 100 → lead_of p (n / 10) * 256 + digit (n % 10) ≡ packed p (numeral 4 10 n)
decimal_whole p n h = ap (λ (x : ℕ). x * 256 + digit (n % 10)) (ten_case p (n / 10) (omega arith)) ∙ sym (last_digit p 3 10 (omega arith) n)

pub chain : (x x1 x2 x3 x4 x5 x6 x7 a1 a2 a3 a4 a5 a6 a7 : List ℕ)
    → x1 ≡ x ++ a1 → x2 ≡ x1 ++ a2 → x3 ≡ x2 ++ a3 → x4 ≡ x3 ++ a4 → x5 ≡ x4 ++ a5 → x6 ≡ x5 ++ a6 → x7 ≡ x6 ++ a7
    → x7 ≡ x ++ (((((((([] ++ a1) ++ a2) ++ a3) ++ a4) ++ a5) ++ a6) ++ a7))
chain x x1 x2 x3 x4 x5 x6 x7 a1 a2 a3 a4 a5 a6 a7 e1 e2 e3 e4 e5 e6 e7 = rw (e7, e6, e5, e4, e3, e2, e1) (simp append_assoc)

-- seven last bytes, one after the other
pub seven : (p : ℕ) (x x1 x2 x3 x4 x5 x6 x7 : List ℕ)
    → x1 ≡ x ++ last_of (p / 256 / 256 / 256 / 256 / 256 / 256)
    → x2 ≡ x1 ++ last_of (p / 256 / 256 / 256 / 256 / 256)
    → x3 ≡ x2 ++ last_of (p / 256 / 256 / 256 / 256)
    → x4 ≡ x3 ++ last_of (p / 256 / 256 / 256)
    → x5 ≡ x4 ++ last_of (p / 256 / 256)
    → x6 ≡ x5 ++ last_of (p / 256)
    → x7 ≡ x6 ++ last_of p
    → x7 ≡ x ++ unpacked 7 p
unfolding unpacked
seven p x x1 x2 x3 x4 x5 x6 x7 e1 e2 e3 e4 e5 e6 e7 = chain x x1 x2 x3 x4 x5 x6 x7 _ _ _ _ _ _ _ e1 e2 e3 e4 e5 e6 e7
