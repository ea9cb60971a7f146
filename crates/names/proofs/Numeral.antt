-- A numeral read back is the number; how many digits it has.
use mathlib.Core.Path.{◌≡◌, refl, ap, ◌∙◌}
use mathlib.Core.Bool.{Bool, true, false, cond}
use mathlib.Core.List.{List, [], ◌∷◌, ◌++◌}
use Prim.Native.Nat.{ℕ, zero, suc, ◌+◌, ◌*◌, ◌/◌, ◌%◌, ◌^◌, ◌<◌, ◌≤◌}
use native.Mathlib.Nat.{div-add-mod', div-lt_iff_lt-mul, mod-lt, mod-eq_of_lt, div-le_self, pow-zero, pow-suc, one-mul}
use borrow.Author.Tests.{ltb-true, ltb-false}
use native.Mathlib.Omega.{arith}
use lib.Dec.{ltb, eqb, eqb→eq}
use lib.ListN.{length, length-append}
use Rattle.names.specs.Line.{digit, numeral}
use Rattle.names.specs.Inner.Scan.{digit_of, digits_of}
use Rattle.names.proofs.Tests.{below}

pub digit_back : (d : ℕ) → d < 16 → digit_of (digit d) ≡ d
digit_back d h = eqb→eq (digit_of (digit d)) d (below (λ d. eqb (digit_of (digit d)) d) 16 tt d h)

pub digits_append : (b n : ℕ) (s t : List ℕ) → digits_of b n (s ++ t) ≡ digits_of b (digits_of b n s) t
unfolding digits_of
digits_append b n [] t = refl
digits_append b n (c ∷ s) t = digits_append b ((n * b + digit_of c) % 65536) s t

module _ (b : ℕ) (two : 2 ≤ b) (few : b ≤ 16) where
  one_digit : (n m : ℕ) → m < b → n * b + m < 65536 → digits_of b n (digit m ∷ []) ≡ n * b + m
  unfolding digits_of
  one_digit n m l h = rw (digit_back m (omega arith)) (mod-eq_of_lt h)

  step : (k n : ℕ) (t : Bool) → ltb n b ≡ t → n < 65536 → digits_of b 0 (numeral k b (n / b)) ≡ n / b
      → digits_of b 0 (cond t (digit n ∷ []) (numeral k b (n / b) ++ digit (n % b) ∷ [])) ≡ n
  step k n true e l ih = one_digit 0 n (ltb-true n b e) (omega arith) ∙ omega arith
  step k n false e l ih =
      let m : n % b < b = mod-lt n (omega arith) in
      let q : n / b * b + n % b ≡ n = div-add-mod' n b in
      digits_append b 0 (numeral k b (n / b)) (digit (n % b) ∷ [])
      ∙ ap (λ (x : ℕ). digits_of b x (digit (n % b) ∷ [])) ih
      ∙ one_digit (n / b) (n % b) m (rw q l)
      ∙ q

  pub numeral_back : (k n : ℕ) → n < b ^ k → n < 65536 → digits_of b 0 (numeral k b n) ≡ n
  unfolding numeral digits_of
  numeral_back zero n h l = omega (arith, rw pow-zero at h)
  numeral_back (suc k) n h l =
      step k n (ltb n b) refl l (numeral_back k (n / b) ((div-lt_iff_lt-mul (omega arith)).1 (rw pow-suc at h)) (omega (arith, div-le_self n b)))

  few_step : (k d n : ℕ) (t : Bool) → ltb n b ≡ t → (b ≤ n → length (numeral k b (n / b)) ≤ d)
      → length (cond t (digit n ∷ []) (numeral k b (n / b) ++ digit (n % b) ∷ [])) ≤ suc d
  few_step k d n true e ih = omega arith
  few_step k d n false e ih = rw (length-append (numeral k b (n / b)) (digit (n % b) ∷ [])) (omega (arith, ih (ltb-false n b e)))

  -- a smaller number has fewer digits
  pub numeral_few : (k d n : ℕ) → n < b ^ suc d → length (numeral k b n) ≤ suc d
  unfolding numeral
  numeral_few zero d n h = omega arith
  numeral_few (suc k) zero n h = few_step k zero n (ltb n b) refl (λ l. absurd (omega (arith, l, rw (pow-suc, pow-zero, one-mul) at h)))
  numeral_few (suc k) (suc d) n h = few_step k (suc d) n (ltb n b) refl (λ l. numeral_few k d (n / b) ((div-lt_iff_lt-mul (omega arith)).1 (rw pow-suc at h)))
