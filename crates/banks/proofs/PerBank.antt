-- How many pairs of an access lie in each bank: one in each that it enters (Entered.antt says which), none in the others; and the sixteen add up to its distinct
-- pairs.
use mathlib.Core.Path.{◌≡◌, refl, sym, ap, ap₂, ◌∙◌}
use mathlib.Core.Bool.{Bool, true, false, cond, ◌||◌}
use mathlib.Core.List.{List, [], ◌∷◌, map, Memᴰ}
use Prim.Native.Nat.{ℕ, zero, suc, ◌+◌, ◌*◌, ◌/◌, ◌≤◌, ◌<◌, zero-le}
use native.Mathlib.Omega.{arith}
use lib.Dec.{eqb, ltb}
use borrow.Author.Tests.{ne_eqb, eq-eqb, eqb-true, eqb-false}
use Rattle.banks.specs.Bank.{bank_of, pair_of}
use Rattle.banks.specs.Line.{from, has, distinct, of_bank, total, addresses, start_of}
use Rattle.banks.specs.Inner.Access.{cells_of, behind}
use Rattle.terms.specs.declared.Way.{Way}
use Rattle.banks.proofs.OneToOne.{bank_lt, cell_lt}
use Rattle.banks.proofs.Entered.{entered_are}
use Rattle.banks.proofs.OneCell.{of_each_bank}

-- a pair of a bank is in its list where it is in the whole
has_of : (b p : ℕ) (ps : List ℕ) → p / 256 ≡ b → has p (of_bank b ps) ≡ has p ps
has_of b p [] h = refl
has_of b p (q ∷ ps) h = go (eqb (q / 256) b) (eqb p q) refl refl (has_of b p ps h)
  where
    go : (x y : Bool) → eqb (q / 256) b ≡ x → eqb p q ≡ y → has p (of_bank b ps) ≡ has p ps
        → has p (cond x (q ∷ of_bank b ps) (of_bank b ps)) ≡ (y || has p ps)
    go true y t s r = ap₂ (λ (u v : Bool). u || v) s r
    go false true t s r = absurd (eqb-false (q / 256) b t (ap (λ (z : ℕ). z / 256) (sym (eqb-true p q s)) ∙ h))
    go false false t s r = r

-- a pair more, and what it adds: one in its bank, where it is new
one_more : (b p : ℕ) (ps : List ℕ) → distinct (of_bank b (p ∷ ps)) ≡ distinct (of_bank b ps) + cond (eqb (p / 256) b) (cond (has p ps) 0 1) 0
one_more b p ps = go (eqb (p / 256) b) refl
  where
    new : (x : Bool) (n : ℕ) → cond x n (suc n) ≡ n + cond x 0 1
    new true n = omega arith
    new false n = omega arith

    go : (x : Bool) → eqb (p / 256) b ≡ x → distinct (cond x (p ∷ of_bank b ps) (of_bank b ps)) ≡ distinct (of_bank b ps) + cond x (cond (has p ps) 0 1) 0
    go true e = rw (has_of b p ps (eqb-true (p / 256) b e)) (new (has p ps) (distinct (of_bank b ps)))
    go false e = omega arith

-- ---- the sixteen add up

pub map_eq : {Y : Type 0} (f g : Y → ℕ) → ((y : Y) → f y ≡ g y) → (l : List Y) → map f l ≡ map g l
map_eq f g h [] = refl
map_eq f g h (y ∷ l) = ap₂ {C = List ℕ} (λ x t. x ∷ t) (h y) (map_eq f g h l)

-- what is added to one of the numbers s, s + 1, .. is added to their sum
module _ (g : ℕ → ℕ) (k e : ℕ) where
  raised : ℕ → ℕ
  raised b = g b + cond (eqb k b) e 0

  flat : (s n : ℕ) → k < s → total (map raised (from s n)) ≡ total (map g (from s n))
  unfolding raised
  flat s zero h = refl
  flat s (suc n) h = rw (ne_eqb k s (λ q. omega arith), flat (suc s) n (omega arith)) (omega arith)

  spiked : (s n : ℕ) → s ≤ k → k < s + n → total (map raised (from s n)) ≡ total (map g (from s n)) + e
  unfolding raised
  spiked s zero l u = absurd (omega arith)
  spiked s (suc n) l u = go (eqb k s) refl (flat (suc s) n) (spiked (suc s) n)
    where
      go : (x : Bool) → eqb k s ≡ x
          → (k < suc s → total (map raised (from (suc s) n)) ≡ total (map g (from (suc s) n)))
          → (suc s ≤ k → k < suc s + n → total (map raised (from (suc s) n)) ≡ total (map g (from (suc s) n)) + e)
          → g s + cond x e 0 + total (map raised (from (suc s) n)) ≡ g s + total (map g (from (suc s) n)) + e
      go true q f r = let z = eqb-true k s q in rw (f (omega arith)) (omega arith)
      go false q f r = let z : k ≡ s → ⊥ = eqb-false k s q in rw (r (after z) (omega arith)) (omega arith)
        where
          after : (k ≡ s → ⊥) → suc s ≤ k
          after z = omega arith

  pub spike : (s n : ℕ) → s ≤ k → k < s + n → total (map (λ b. g b + cond (eqb k b) e 0) (from s n)) ≡ total (map g (from s n)) + e
  unfolding raised
  spike s n l u = spiked s n l u

pair_of_lem : (c a : ℕ) → pair_of c a / 256 ≡ bank_of c a
unfolding pair_of
pair_of_lem c a = omega (arith, cell_lt a)

pub pair_lt : (c a : ℕ) → pair_of c a / 256 < 16
pair_lt c a = rw (pair_of_lem c a) (bank_lt c a)

-- however the pairs are given, as long as each is of one of the sixteen banks
pub adds_up : {Y : Type 0} (f : Y → ℕ) → ((y : Y) → f y / 256 < 16) → (l : List Y)
    → total (map (λ b. distinct (of_bank b (map f l))) (from 0 16)) ≡ distinct (map f l)
adds_up f h [] = refl
adds_up f h (y ∷ l) =
    ap total (map_eq _ (λ b. distinct (of_bank b (map f l)) + cond (eqb (f y / 256) b) (cond (has (f y) (map f l)) 0 1) 0) (λ b. one_more b (f y) (map f l)) (from 0 16))
    ∙ spike (λ b. distinct (of_bank b (map f l))) (f y / 256) (cond (has (f y) (map f l)) 0 1) 0 16 zero-le (h y)
    ∙ ap (λ (n : ℕ). n + cond (has (f y) (map f l)) 0 1) (adds_up f h l)
    ∙ new (has (f y) (map f l)) (distinct (map f l))
  where
    new : (x : Bool) (n : ℕ) → n + cond x 0 1 ≡ cond x n (suc n)
    new true n = omega arith
    new false n = omega arith

-- ---- one pair in each bank that is entered

module _ (c b : ℕ) where
  -- the addresses of a list in the bank have one pair
  Single : List ℕ → Type 0
  Single l = (x y : ℕ) → Memᴰ x l → Memᴰ y l → bank_of c x ≡ b → bank_of c y ≡ b → pair_of c x ≡ pair_of c y

  -- of such a list, a pair of the bank is in it where any is
  same_has : (x : ℕ) → bank_of c x ≡ b → (l : List ℕ) → ((y : ℕ) → Memᴰ y l → bank_of c y ≡ b → pair_of c x ≡ pair_of c y)
      → has (pair_of c x) (map (pair_of c) l) ≡ has b (map (bank_of c) l)
  same_has x h [] q = refl
  same_has x h (y ∷ l) q = ap₂ (λ (u v : Bool). u || v) (go (eqb b (bank_of c y)) refl) (same_has x h l (λ z m. q z (Memᴰ.tail m)))
    where
      go : (t : Bool) → eqb b (bank_of c y) ≡ t → eqb (pair_of c x) (pair_of c y) ≡ t
      go true e = eq-eqb _ _ (q y (Memᴰ.head refl) (sym (eqb-true b _ e)))
      go false e = ne_eqb _ _ (λ p. eqb-false b _ e (sym h ∙ sym (pair_of_lem c x) ∙ ap (λ (z : ℕ). z / 256) p ∙ pair_of_lem c y))

  single : (l : List ℕ) → Single l → distinct (of_bank b (map (pair_of c) l)) ≡ cond (has b (map (bank_of c) l)) 1 0
  unfolding Single
  single [] q = refl
  single (x ∷ l) q =
      one_more b (pair_of c x) (map (pair_of c) l)
      ∙ rw (pair_of_lem c x) (go (eqb (bank_of c x) b) (eqb b (bank_of c x)) refl refl (single l (λ y z m n. q y z (Memᴰ.tail m) (Memᴰ.tail n))))
    where
      told : (t : Bool) → cond t 1 0 + cond t 0 1 ≡ 1
      told true = refl
      told false = refl

      go : (s t : Bool) → eqb (bank_of c x) b ≡ s → eqb b (bank_of c x) ≡ t
          → distinct (of_bank b (map (pair_of c) l)) ≡ cond (has b (map (bank_of c) l)) 1 0
          → distinct (of_bank b (map (pair_of c) l)) + cond s (cond (has (pair_of c x) (map (pair_of c) l)) 0 1) 0
          ≡ cond (t || has b (map (bank_of c) l)) 1 0
      go true true e f r =
          let h = eqb-true (bank_of c x) b e in
          rw (r, same_has x h l (λ y m. q x y (Memᴰ.head refl) (Memᴰ.tail m) h)) (told (has b (map (bank_of c) l)))
      go false false e f r = omega arith
      go true false e f r = absurd (eqb-false b _ f (sym (eqb-true (bank_of c x) b e)))
      go false true e f r = absurd (eqb-false (bank_of c x) b e (sym (eqb-true b _ f)))

one_pair : (w : Way) (c a b : ℕ) → Single c b (addresses w c a)
unfolding Single pair_of
one_pair w c a b x y m n e f =
    let q = of_each_bank w c a x m in
    ap₂ (λ (u v : ℕ). u * 256 + v) (e ∙ sym f) (q.only x m refl ∙ sym (q.only y n (f ∙ sym e)))

-- for every way, code, address and bank
pub per_bank : (w : Way) (c a k : ℕ) → k < 16
    → distinct (of_bank k (map (pair_of c) (addresses w c a))) ≡ cond (ltb (behind k (bank_of c (start_of w c a))) (cells_of w c)) 1 0
per_bank w c a k h =
    single c k (addresses w c a) (one_pair w c a k) ∙ ap (λ (t : Bool). cond t 1 0) (entered_are w c a k h)
