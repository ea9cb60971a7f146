-- The reader's loops, a byte at a time: what the text from a place on splits into.
use mathlib.Core.Path.{◌≡◌, refl, ap, ◌∙◌, sym}
use mathlib.Core.Bool.{Bool, true, false, cond}
use mathlib.Core.List.{List, [], ◌∷◌}
use Prim.Native.Nat.{ℕ, zero, suc, ◌+◌, ◌*◌, ◌-◌, ◌%◌, ◌<◌, ◌≤◌}
use native.Mathlib.Nat.{mul-le-mul}
use native.Mathlib.Numerals.{add-one}
use native.Mathlib.Omega.{arith}
use native.Mathlib.Decide.{ℕ_discrete}
use borrow.Author.Tests.{eq-eqb, ne_eqb}
use mir.Val.{bool_byte}
use lib.Dec.{eqb}
use lib.ListN.{drop_of_length-le, length, take, drop, get_or, length-drop}
use lib.Seq.{drop-cons, get_or-drop}
use Rattle.std.proofs.lemmas.List.{take_rest}
use Rattle.names.specs.Calls.{one_feed}
use Rattle.names.specs.Inner.Scan.{split, digit_of, digits_of}

pub here : (t : List ℕ) (i : ℕ) → i < length t → drop i t ≡ get_or t i 0 ∷ drop (i + 1) t
here t i h = rw add-one (drop-cons t i 0 h)

module _ (t : List ℕ) (i : ℕ) (h : i < length t) where
  pub at_feed : get_or t i 0 ≡ 10 → split (drop i t) ≡ ([], [])
  unfolding split
  at_feed e = rw (here t i h, eq-eqb (get_or t i 0) 10 e) refl

  pub at_space : get_or t i 0 ≡ 32 → split (drop i t) ≡ ([], (split (drop (i + 1) t)).0 ∷ (split (drop (i + 1) t)).1)
  unfolding split
  at_space e = rw (here t i h, ne_eqb (get_or t i 0) 10 (λ q. omega arith), eq-eqb (get_or t i 0) 32 e) refl

  pub at_inner : (get_or t i 0 ≡ 10 → ⊥) → (get_or t i 0 ≡ 32 → ⊥) → split (drop i t) ≡ (get_or t i 0 ∷ (split (drop (i + 1) t)).0, (split (drop (i + 1) t)).1)
  unfolding split
  at_inner e f = rw (here t i h, ne_eqb (get_or t i 0) 10 e, ne_eqb (get_or t i 0) 32 f) refl

  -- the only feed
  pub feed_here : get_or t i 0 ≡ 10 → one_feed (drop i t) ≡ eqb (i + 1) (length t)
  unfolding one_feed
  feed_here e = rw (here t i h, eq-eqb (get_or t i 0) 10 e, length-drop (i + 1) t) (go (ℕ_discrete (i + 1) (length t)))
    where
      go : Dec (i + 1 ≡ length t) → eqb (length t - (i + 1)) 0 ≡ eqb (i + 1) (length t)
      go (yes q) = eq-eqb (length t - (i + 1)) 0 (omega arith) ∙ sym (eq-eqb (i + 1) (length t) q)
      go (no q) = ne_eqb (length t - (i + 1)) 0 (λ z. q (omega arith)) ∙ sym (ne_eqb (i + 1) (length t) q)

  pub feed_on : (get_or t i 0 ≡ 10 → ⊥) → one_feed (drop i t) ≡ one_feed (drop (i + 1) t)
  unfolding one_feed
  feed_on e = rw (here t i h, ne_eqb (get_or t i 0) 10 e) refl

-- a byte of what is left, as a slice from a place on
pub left_at : (t : List ℕ) (at i : ℕ) → get_or (take (length t - at) (drop at t)) i 0 ≡ get_or t (at + i) 0
left_at t at i = ap (λ (l : List ℕ). get_or l i 0) (take_rest t at) ∙ get_or-drop at t i 0

pub split_end : (t : List ℕ) (i : ℕ) → length t ≤ i → split (drop i t) ≡ ([], [])
unfolding split
split_end t i g = rw (drop_of_length-le t g) refl

pub feed_end : (t : List ℕ) (i : ℕ) → length t ≤ i → one_feed (drop i t) ≡ false
unfolding one_feed
feed_end t i g = rw (drop_of_length-le t g) refl

abbrev pub Rest : List ℕ → ℕ → List (List ℕ)
Rest t i = (split (drop i t)).1

pub next_end : (t : List ℕ) (at i : ℕ) → Rest t at ≡ [] → split (drop i t) ≡ ([], []) → split (drop i t) ≡ (get_or (Rest t at) 0 [], drop 1 (Rest t at))
next_end t at i e f = rw (e, f) refl

pub next_space : (t : List ℕ) (at i : ℕ) → Rest t at ≡ (split (drop i t)).0 ∷ (split (drop i t)).1 → split (drop i t) ≡ (get_or (Rest t at) 0 [], drop 1 (Rest t at))
next_space t at i e = rw e refl

-- ---- counting, and digits
pub count_space : (t : List ℕ) (i : ℕ) → i < length t → get_or t i 0 ≡ 32 → length (Rest t i) ≡ length (Rest t (i + 1)) + 1
count_space t i h e = ap (λ (r : List ℕ × List (List ℕ)). length r.1) (at_space t i h e) ∙ omega arith

pub count_inner : (t : List ℕ) (i : ℕ) → i < length t → (get_or t i 0 ≡ 10 → ⊥) → (get_or t i 0 ≡ 32 → ⊥) → length (Rest t i) ≡ length (Rest t (i + 1))
count_inner t i h e f = ap (λ (r : List ℕ × List (List ℕ)). length r.1) (at_inner t i h e f)

count_case : (t : List ℕ) (i : ℕ) → i < length t → (get_or t i 0 ≡ 10 → ⊥) → Dec (get_or t i 0 ≡ 32) → length (Rest t i) ≡ length (Rest t (i + 1)) + bool_byte (eqb (get_or t i 0) 32)
count_case t i h e (yes q) = rw (eq-eqb (get_or t i 0) 32 q) (count_space t i h q)
count_case t i h e (no q) = rw (ne_eqb (get_or t i 0) 32 q) (count_inner t i h e q ∙ omega arith)

pub one_at_most : (s : Bool) → bool_byte s ≤ 1
one_at_most true = omega arith
one_at_most false = omega arith

pub count_on : (t : List ℕ) (i : ℕ) → i < length t → (get_or t i 0 ≡ 10 → ⊥) → length (Rest t i) ≡ length (Rest t (i + 1)) + bool_byte (eqb (get_or t i 0) 32)
count_on t i h e = count_case t i h e (ℕ_discrete (get_or t i 0) 32)

abbrev pub Digits : ℕ → ℕ → ℕ → List ℕ → ℕ → ℕ
Digits b n k t i = digits_of b n (drop k (split (drop i t)).0)

pub digits_stop : (b n k : ℕ) (t : List ℕ) (i : ℕ) → (split (drop i t)).0 ≡ [] → Digits b n k t i ≡ n
unfolding digits_of
digits_stop b n zero t i e = rw e refl
digits_stop b n (suc k) t i e = rw e refl

pub digits_skip : (b n k : ℕ) (t : List ℕ) (i : ℕ) → i < length t → (get_or t i 0 ≡ 10 → ⊥) → (get_or t i 0 ≡ 32 → ⊥) → (k ≡ 0 → ⊥) → Digits b n k t i ≡ Digits b n (k - 1) t (i + 1)
digits_skip b n zero t i h e f g = absurd (g refl)
digits_skip b n (suc k) t i h e f g = rw (at_inner t i h e f) (ap (λ (j : ℕ). digits_of b n (drop j (split (drop (i + 1) t)).0)) {x = k} {y = suc k - 1} (omega arith))

pub digits_take : (b n k : ℕ) (t : List ℕ) (i : ℕ) → i < length t → (get_or t i 0 ≡ 10 → ⊥) → (get_or t i 0 ≡ 32 → ⊥) → k ≡ 0
    → Digits b n k t i ≡ Digits b ((n * b + digit_of (get_or t i 0)) % 65536) k t (i + 1)
unfolding digits_of
digits_take b n k t i h e f g = rw (g, at_inner t i h e f) refl

pub digits_on : (b n k : ℕ) (t : List ℕ) (i : ℕ) → i < length t → (get_or t i 0 ≡ 10 → ⊥) → (get_or t i 0 ≡ 32 → ⊥)
    → Digits b n k t i ≡ Digits b (cond (eqb k 0) ((n * b + digit_of (get_or t i 0)) % 65536) n) (k - 1) t (i + 1)
digits_on b n zero t i h e f = digits_take b n zero t i h e f refl
digits_on b n (suc k) t i h e f = rw (ne_eqb (suc k) 0 (λ q. omega arith)) (digits_skip b n (suc k) t i h e f (λ q. omega arith))

pub times : (n b : ℕ) → n < 65536 → b ≤ 16 → n * b ≤ 1048560
times n b h l = mul-le-mul {n₁ = n} {m₁ = b} {n₂ = 65535} {m₂ = 16} (omega arith) l
