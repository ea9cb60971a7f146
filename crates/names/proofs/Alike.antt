-- Comparing a text with a line's bytes, and the first byte of a text.
use mathlib.Core.Path.{◌≡◌, refl, ap, ◌∙◌, sym}
use mathlib.Core.Bool.{Bool, true, false, ◌&&◌}
use mathlib.Core.List.{List, [], ◌∷◌}
use Prim.Native.Nat.{ℕ, ◌*◌, ◌-◌, ◌%◌}
use native.Mathlib.Omega.{arith}
use native.Mathlib.Nat.{add-zero}
use native.Mathlib.Decide.{ℕ_discrete}
use borrow.Author.Tests.{eq-eqb, ne_eqb}
use lib.Dec.{T, eqb}
use lib.Pointwise.{pointwise}
use Rattle.std.specs.Prelude.{nat_eq}
use lib.ListN.{drop, get_or}
use lib.Seq.{get_or-drop}
use Rattle.names.specs.Calls.{eqs}
use Rattle.names.specs.Inner.Scan.{split, digits_of}
use Rattle.names.specs.Inner.Code.{slot_at, taken_at}
use Rattle.names.proofs.Tests.{eqs_eq}

differ_case : (t : Bool) → (T t → ⊥) → false ≡ t
differ_case true h = absurd (h tt)
differ_case false h = refl

pub differ : (s t : List ℕ) → (s ≡ t → ⊥) → false ≡ eqs s t
differ s t h = differ_case (eqs s t) (λ e. h (eqs_eq s t e))

-- ---- the first byte of a text
module _ (x : ℕ) (z : x ≡ 0 → ⊥) (feed : x ≡ 10 → ⊥) (space : x ≡ 32 → ⊥) where
  head_case : (b : ℕ) (bs : List ℕ) → Dec (b ≡ 10) → Dec (b ≡ 32) → eqb (get_or (split (b ∷ bs)).0 0 0) x ≡ eqb b x
  unfolding split
  head_case b bs (yes p) q = rw (eq-eqb b 10 p) (ne_eqb 0 x (λ e. z (sym e)) ∙ sym (ne_eqb b x (λ e. feed (sym e ∙ p))))
  head_case b bs (no p) (yes q) = rw (ne_eqb b 10 p, eq-eqb b 32 q) (ne_eqb 0 x (λ e. z (sym e)) ∙ sym (ne_eqb b x (λ e. space (sym e ∙ q))))
  head_case b bs (no p) (no q) = rw (ne_eqb b 10 p, ne_eqb b 32 q) refl

  head_any : (l : List ℕ) → eqb (get_or (split l).0 0 0) x ≡ eqb (get_or l 0 0) x
  unfolding split
  head_any [] = refl
  head_any (b ∷ bs) = head_case b bs (ℕ_discrete b 10) (ℕ_discrete b 32)

  pub head_at : (t : List ℕ) (at : ℕ) → eqb (get_or (split (drop at t)).0 0 0) x ≡ eqb (get_or t at 0) x
  head_at t at = head_any (drop at t) ∙ ap (λ (y : ℕ). eqb y x) (get_or-drop at t 0 0 ∙ ap (λ (k : ℕ). get_or t k 0) (add-zero at))

module _ (t : List ℕ) (at : ℕ) where
  abbrev word : List ℕ
  word = (split (drop at t)).0

  pub half_hi : get_or t at 0 ≡ 104 → 8 ≡ taken_at 19 word
  unfolding taken_at slot_at
  half_hi e = rw (head_at 104 (λ q. omega arith) (λ q. omega arith) (λ q. omega arith) t at, eq-eqb (get_or t at 0) 104 e) refl

  pub half_lo : (get_or t at 0 ≡ 104 → ⊥) → 0 ≡ taken_at 19 word
  unfolding taken_at slot_at
  half_lo e = rw (head_at 104 (λ q. omega arith) (λ q. omega arith) (λ q. omega arith) t at, ne_eqb (get_or t at 0) 104 e) refl

  pub imm_minus : get_or t at 0 ≡ 45 → (2048 - digits_of 16 0 (drop 3 word)) % 2048 * 8 ≡ taken_at 15 word
  unfolding taken_at slot_at
  imm_minus e = rw (head_at 45 (λ q. omega arith) (λ q. omega arith) (λ q. omega arith) t at, eq-eqb (get_or t at 0) 45 e) refl

  pub imm_plus : (get_or t at 0 ≡ 45 → ⊥) → digits_of 16 0 (drop 2 word) % 2048 * 8 ≡ taken_at 15 word
  unfolding taken_at slot_at
  imm_plus e = rw (head_at 45 (λ q. omega arith) (λ q. omega arith) (λ q. omega arith) t at, ne_eqb (get_or t at 0) 45 e) refl

-- ---- two texts, as `==` compares them
pub pointwise_eqs : (s t : List ℕ) → pointwise nat_eq s t ≡ eqs s t
pointwise_eqs [] [] = refl
pointwise_eqs [] (b ∷ t) = refl
pointwise_eqs (a ∷ s) [] = refl
pointwise_eqs (a ∷ s) (b ∷ t) = ap (λ (e : Bool). eqb a b && e) (pointwise_eqs s t)
