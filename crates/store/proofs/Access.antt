-- The places of an access are those that the loops go over.
use mathlib.Core.Path.{◌≡◌, refl, sym, ap, ap₂, ◌∙◌}
use mathlib.Core.List.{List, [], ◌∷◌, map-map}
use Prim.Native.Nat.{ℕ, zero, suc, ◌+◌, ◌*◌, ◌-◌, ◌/◌, ◌%◌, ◌<◌, ◌≤◌}
use native.Mathlib.Omega.{arith}
use native.Mathlib.Nat.{mul-add}
use lib.Bits.{bit_or}
use lib.ListN.{length}
use Rattle.banks.specs.Bank.{at, turn_of, bank_of}
use Rattle.banks.specs.Line.{from, line, addresses, start_of, step_of, count_of, stride_of, row_start, word_start, column_start}
use Rattle.banks.specs.Inner.Access.{places}
use Rattle.terms.specs.declared.Way.{Way}
use Rattle.terms.specs.declared.Way.TheVariants.{Horizontal, Vertical, Scalar}
use Rattle.banks.proofs.OneToOne.{bank_lt}
use Rattle.banks.proofs.Places.{way_lt}
use Rattle.banks.proofs.Distinct.{map_ext}
use Rattle.banks.proofs.Banks.{row_bank, column_bank, column0_bank}
use Rattle.banks.proofs.Masks.{at_line}
use Rattle.store.specs.Inner.Steps.{upto, stepped, paired, in_bank}
use Rattle.store.specs.Inner.Loads.{loaded, stored}
use Rattle.store.proofs.Rows.{row_loads, row_stores}

-- ---- the i-th place of an access: its bank and its line

spin : (x i : ℕ) → (x + i) % 16 ≡ (x % 16 + i) % 16
spin x i = omega arith

row_round : (c b i : ℕ) → b % 16 + i < 16 → bank_of c (b + i * 1) ≡ (bank_of c b + i) % 16
unfolding bank_of
row_round c b i h = row_bank c b i h ∙ spin (b % 16 + turn_of c b) i

-- the bank of the first address begins the round
first : (c x s y : ℕ) → bank_of c (x + 0 * s) ≡ y → bank_of c x ≡ y
first c x s y e = let z : x + 0 * s ≡ x = omega arith in rw z at e

low_four : (c a : ℕ) → a % stride_of c % 16 ≡ a % 16
unfolding stride_of
low_four zero a = omega arith
low_four (suc zero) a = omega arith
low_four (suc (suc zero)) a = omega arith
low_four (suc (suc (suc c))) a = omega arith

-- under every code a column begins in the bank of its address's low four bits
head_bank : (c a : ℕ) → bank_of c (column_start c a) ≡ a % 16
head_bank zero a = first 0 _ (stride_of 0) _ (column0_bank a 0 (omega arith)) ∙ omega arith
head_bank (suc c) a = first (suc c) _ (stride_of (suc c)) _ (column_bank c a 0) ∙ (rw (low_four (suc c) a) (omega arith))

column_round : (c a i : ℕ) → bank_of (suc c) (column_start (suc c) a + i * stride_of (suc c)) ≡ (bank_of (suc c) (column_start (suc c) a) + i) % 16
column_round c a i = rw (head_bank (suc c) a, ← low_four (suc c) a) (column_bank c a i)

-- the lines that an access goes down from byte to byte; it is odd, one, only in a column of code 0, whose banks come twice each
abbrev down_of : Way → ℕ → ℕ
down_of w c = step_of w c / 16

round : (w : Way) (c a i : ℕ) → i < count_of w → down_of w c % 2 ≡ 0
    → bank_of c (start_of w c a + i * step_of w c) ≡ (bank_of c (start_of w c a) + i) % 16
unfolding start_of step_of row_start word_start stride_of
round Horizontal c a i h e = row_round c (row_start a) i (omega arith)
round Vertical zero a i h e = absurd (omega arith)
round Vertical (suc c) a i h e = column_round c a i
round Scalar c a i h e = row_round c (word_start a) i (omega arith)

column_lines : (c x i : ℕ) → (x + i * stride_of c) / 16 ≡ x / 16 + i * (stride_of c / 16)
unfolding stride_of
column_lines zero x i = omega arith
column_lines (suc zero) x i = omega arith
column_lines (suc (suc zero)) x i = omega arith
column_lines (suc (suc (suc c))) x i = omega arith

lines : (w : Way) (c a i : ℕ) → i < count_of w → (start_of w c a + i * step_of w c) / 16 ≡ start_of w c a / 16 + i * down_of w c
unfolding start_of step_of row_start word_start
lines Horizontal c a i h = omega arith
lines Vertical c a i h = column_lines c (column_start c a) i
lines Scalar c a i h = omega arith

start_lt : (w : Way) (c a : ℕ) → start_of w c a < 8192
start_lt Horizontal c a = omega (arith, way_lt Horizontal c a 0 (omega arith))
start_lt Vertical c a = omega (arith, way_lt Vertical c a 0 (omega arith))
start_lt Scalar c a = omega (arith, way_lt Scalar c a 0 (omega arith))

-- an access begins within the store, on one of a bank's 512 lines, in one of the sixteen banks
module _ (w : Way) (c a s : ℕ) (e : s ≡ start_of w c a) where
  pub start_within : s < 8192
  start_within = rw e (start_lt w c a)

  pub line_within : s / 16 < 512
  line_within = omega (arith, start_within)

pub bank_within : (c s b : ℕ) → b ≡ bank_of c s → b < 16
bank_within c s b f = rw f (bank_lt c s)

-- ---- the lists

-- a step to the next bank, x lines down in all
steps : (b t i x : ℕ) → t + x < 512 → (b + i) % 16 * 512 + (t + x) ≡ (b * 512 + t + (i * 512 + x)) % 8192
steps b t i x h = omega arith

pairs : (b t i : ℕ) → t + i * 1 < 512 → (b + i / 2) % 16 * 512 + (t + i * 1) ≡ (b * 512 + t + i / 2 * 514) % 8192 + i % 2
pairs b t i h = omega arith

module _ (w : Way) (c a : ℕ) where
  first_at : at c (start_of w c a) ≡ bank_of c (start_of w c a) * 512 + start_of w c a / 16
  first_at = at_line c (start_of w c a) (start_lt w c a)

  line_lt : (i : ℕ) → i < count_of w → start_of w c a / 16 + i * down_of w c < 512
  line_lt i l = omega (arith, lines w c a i l, way_lt w c a i l)

  places_by : (g : ℕ → ℕ) → ((i : ℕ) → i < count_of w → at c (start_of w c a + i * step_of w c) ≡ g i)
      → upto g (count_of w) ≡ places c (addresses w c a)
  unfolding places addresses line upto
  places_by g h =
      map_ext g (λ k. at c (start_of w c a + k * step_of w c)) 0 (count_of w) (λ i l. sym (h i (omega arith)))
      ∙ sym (map-map (at c) (λ k. start_of w c a + k * step_of w c) (from 0 (count_of w)))

  module _ (even : down_of w c % 2 ≡ 0) where
    nth : (i : ℕ) → i < count_of w
        → at c (start_of w c a + i * step_of w c) ≡ (bank_of c (start_of w c a) + i) % 16 * 512 + (start_of w c a / 16 + i * down_of w c)
    nth i l = at_line c _ (way_lt w c a i l) ∙ ap₂ (λ (x y : ℕ). x * 512 + y) (round w c a i l even) (lines w c a i l)

    -- equal steps from the first place on
    stepped_places : upto (stepped (at c (start_of w c a)) (512 + down_of w c)) (count_of w) ≡ places c (addresses w c a)
    unfolding stepped
    stepped_places =
        places_by (stepped (at c (start_of w c a)) (512 + down_of w c))
        (λ i l.
        nth i l
        ∙ (rw (first_at, mul-add i 512 (down_of w c)) (steps (bank_of c (start_of w c a)) (start_of w c a / 16) i (i * down_of w c) (line_lt i l))))

-- ---- what the functions go over

-- along a line: a row, or a word
module _ (w : Way) (c a : ℕ) (flat : down_of w c ≡ 0) where
  along : (i : ℕ) → i < count_of w
      → at c (start_of w c a + i * step_of w c) ≡ in_bank (start_of w c a / 16) (bank_of c (start_of w c a) + i)
  unfolding in_bank
  along i l =
      let even : down_of w c % 2 ≡ 0 = rw flat refl in
      let z : i * down_of w c ≡ 0 = rw flat (omega arith) in
      nth w c a even i l ∙ (rw z (omega arith))

  line_places : (s b : ℕ) → s ≡ start_of w c a → b ≡ bank_of c s
      → upto (λ i. in_bank (s / 16) (b + i)) (count_of w) ≡ places c (addresses w c a)
  line_places s b e f = rw (f, e) (places_by w c a (λ i. in_bank (start_of w c a / 16) (bank_of c (start_of w c a) + i)) along)

pub word_places : (c a s b : ℕ) → s ≡ start_of Scalar c a → b ≡ bank_of c s
    → upto (λ i. in_bank (s / 16) (b + i)) 4 ≡ places c (addresses Scalar c a)
unfolding step_of
word_places c a = line_places Scalar c a refl

-- a word's places as the code writes them
pub four_places : (t b : ℕ) → b < 16
    → (t + 512 * b) ∷ (t + (512 * b + 512) % 8192) ∷ (t + (512 * b + 1024) % 8192) ∷ (t + (512 * b + 1536) % 8192) ∷ []
    ≡ upto (λ i. in_bank t (b + i)) 4
unfolding upto in_bank
four_places t b h =
    let e0 : t + 512 * b ≡ 512 * ((b + 0) % 16) + t = omega arith in
    let e1 : t + (512 * b + 512) % 8192 ≡ 512 * ((b + 1) % 16) + t = omega arith in
    let e2 : t + (512 * b + 1024) % 8192 ≡ 512 * ((b + 2) % 16) + t = omega arith in
    let e3 : t + (512 * b + 1536) % 8192 ≡ 512 * ((b + 3) % 16) + t = omega arith in
    rw (e0, e1, e2, e3) refl

module _ (c a s b : ℕ) (e : s ≡ start_of Horizontal c a) (f : b ≡ bank_of c s) where
  row_from : upto (λ i. in_bank (s / 16) (b + i)) 16 ≡ places c (addresses Horizontal c a)
  unfolding step_of
  row_from = line_places Horizontal c a refl s b e f

  pub row_loaded : (ds w r : List ℕ) → w ≡ loaded ds (upto (in_bank (s / 16)) 32) → r ≡ loaded w (upto (λ i. b + i) 16)
      → r ≡ loaded ds (places c (addresses Horizontal c a))
  row_loaded ds w r p q = q ∙ (rw p (row_loads (s / 16) b ds (bank_within c s b f) ∙ ap (loaded ds) row_from))

  pub row_stored : (ds x w end : List ℕ) → length ds ≡ 8192 → w ≡ loaded x (upto (λ k. (16 - b + k) % 16) 16)
      → end ≡ stored ds (upto (in_bank (s / 16)) 16) w → end ≡ stored ds (places c (addresses Horizontal c a)) x
  row_stored ds x w end h p q =
      q ∙ (rw p (row_stores (s / 16) b ds x (line_within Horizontal c a s e) (bank_within c s b f) h ∙ ap (λ (ps : List ℕ). stored ds ps x) row_from))

even_down : (c : ℕ) → (c ≡ 0 → ⊥) → stride_of c / 16 % 2 ≡ 0
unfolding stride_of
even_down zero h = absurd (h refl)
even_down (suc zero) h = refl
even_down (suc (suc zero)) h = refl
even_down (suc (suc (suc c))) h = refl

pub column_places : (c a p s : ℕ) → (c ≡ 0 → ⊥) → p ≡ at c (start_of Vertical c a) → s ≡ 512 + stride_of c / 16
    → upto (stepped p s) 16 ≡ places c (addresses Vertical c a)
unfolding step_of
column_places c a p s h e f = rw (f, e) (stepped_places Vertical c a (even_down c h))

-- by OR: the stride's lines are fewer than a bank's 512
pub or_step : (c s : ℕ) → s ≡ stride_of c → (bit_or 512 (s / 16) ≡ 512 + stride_of c / 16) × (bit_or 512 (s / 16) ≤ 520)
unfolding stride_of
or_step zero s e = rw e (refl, omega arith)
or_step (suc zero) s e = rw e (refl, omega arith)
or_step (suc (suc zero)) s e = rw e (refl, omega arith)
or_step (suc (suc (suc c))) s e = rw e (refl, omega arith)

-- a column of code 0
module _ (a : ℕ) where
  pairs_places : upto (paired (at 0 (start_of Vertical 0 a))) 16 ≡ places 0 (addresses Vertical 0 a)
  unfolding start_of step_of stride_of paired stepped
  pairs_places =
      places_by Vertical 0 a (paired (at 0 (start_of Vertical 0 a)))
      (λ i l.
      at_line 0 _ (way_lt Vertical 0 a i l)
      ∙ ap₂ (λ (x y : ℕ). x * 512 + y) (column0_bank a i l) (lines Vertical 0 a i l)
      ∙ (rw (first_at Vertical 0 a, head_bank 0 a) (pairs (a % 16) (column_start 0 a / 16) i (line_lt Vertical 0 a i l))))

  pairs_even : at 0 (start_of Vertical 0 a) % 2 ≡ 0
  unfolding start_of column_start stride_of
  pairs_even = rw (first_at Vertical 0 a) (omega arith)

module _ (c a p : ℕ) (z : c ≡ 0) (e : p ≡ at c (start_of Vertical c a)) where
  pub paired_places : upto (paired p) 16 ≡ places c (addresses Vertical c a)
  paired_places = rw (e, z) (pairs_places a)

  pub paired_even : p % 2 ≡ 0
  paired_even = rw (e, z) (pairs_even a)

-- the head of a column
pub head_placed : (c a s : ℕ) → s ≡ start_of Vertical c a → (a % 16 * 512 + s / 16 ≡ at c (start_of Vertical c a)) × (a % 16 * 512 + s / 16 < 8192)
unfolding start_of
head_placed c a s e = (rw e (ap (λ (b : ℕ). b * 512 + column_start c a / 16) (sym (head_bank c a)) ∙ sym (first_at Vertical c a)), omega (arith, start_lt Vertical c a))
