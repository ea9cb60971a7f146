-- One operand of a form, taken from the texts that are left.
use mathlib.Core.Path.{◌≡◌, refl, ap, ◌∙◌, sym, subst}
use mathlib.Core.Bool.{Bool, true, false, cond, not}
use mathlib.Core.List.{List, [], ◌∷◌}
use Prim.Native.Nat.{ℕ, suc, ◌+◌, ◌*◌, ◌-◌, ◌%◌, ◌<◌, ◌≤◌, ◌/◌}
use native.Mathlib.Omega.{arith}
use native.Mathlib.Decide.{ℕ_discrete, dec_lt}
use borrow.Author.Tests.{eq-eqb, ne_eqb, lt-ltb, le-ltb, le-leb, lt-leb}
use lib.Dec.{T, eqb, ltb, leb}
use lib.ListN.{length, drop, get_or, length-drop, get_or-eq_default}
use Rattle.names.specs.Line.{Kind, number, flags, signed, lohi, allvc, Operand}
use Rattle.names.specs.Table.{half}
use Rattle.names.specs.Inner.Scan.{present, gathered}
use Rattle.names.specs.Inner.Code.{slots, slot_at, taken_at, listed}
use Rattle.names.proofs.Tests.{below}

-- only 10 and 11 are flags registers
abbrev always : Kind → Bool
always (number b p) = true
always (flags p) = false
always signed = true
always lohi = true
always allvc = true

always_present : (k : Kind) (m n : ℕ) → T (always k) → present k m n ≡ true
always_present (number b p) m n t = refl
always_present (flags p) m n t = absurd t
always_present signed m n t = refl
always_present lohi m n t = refl
always_present allvc m n t = refl

pub others : (o m n : ℕ) → (o ≡ 10 → ⊥) → (o ≡ 11 → ⊥) → false ≡ not (present (slot_at o).kind m n)
unfolding slot_at
others o m n p q = elim (dec_lt o 19) [ yes h ↦ small o h p q | no h ↦ let g : 19 ≤ o = omega arith in rw (get_or-eq_default slots half g) refl ]
  where
    small : (o : ℕ) → o < 19 → (o ≡ 10 → ⊥) → (o ≡ 11 → ⊥) → false ≡ not (present (slot_at o).kind m n)
    small o h p q =
        ap not (sym (always_present (slot_at o).kind m n
        (pick o (always (slot_at o).kind) (below (λ o. cond (eqb o 10) true (cond (eqb o 11) true (always (slot_at o).kind))) 19 tt o h) p q)))
      where
        pick : (o : ℕ) (b : Bool) → T (cond (eqb o 10) true (cond (eqb o 11) true b)) → (o ≡ 10 → ⊥) → (o ≡ 11 → ⊥) → T b
        pick o b t p q = let e : cond (eqb o 10) true (cond (eqb o 11) true b) ≡ b = rw (ne_eqb o 10 p, ne_eqb o 11 q) refl in subst T e t

module _ (o : ℕ) (os : List Operand) (ts : List (List ℕ)) (w : ℕ) where
  pub gather_none : o ≡ 0 → w + gathered (cond (eqb o 0) os (slot_at o ∷ os)) ts ≡ w + gathered os ts
  gather_none e = rw (eq-eqb o 0 e) refl

  pub gather_here : (o ≡ 0 → ⊥) → present (slot_at o).kind (length os) (length ts) ≡ true
      → w + gathered (cond (eqb o 0) os (slot_at o ∷ os)) ts ≡ w + taken_at o (get_or ts 0 []) + gathered os (drop 1 ts)
  unfolding gathered taken_at
  gather_here e p = rw (ne_eqb o 0 e, p) (omega arith)

pub le_not : (a b : ℕ) → leb a b ≡ not (ltb b a)
le_not a b = elim (dec_lt b a) [ yes h ↦ rw (lt-leb a b h, lt-ltb b a h) refl | no h ↦ let g : a ≤ b = omega arith in rw (le-leb a b g, le-ltb b a g) refl ]

pub flags_ten : (o m n : ℕ) → o ≡ 10 → leb n m ≡ not (present (slot_at o).kind m n)
unfolding slot_at
flags_ten o m n e = rw e (le_not n m)

pub flags_eleven : (o m n : ℕ) → o ≡ 11 → leb n m ≡ not (present (slot_at o).kind m n)
unfolding slot_at
flags_eleven o m n e = rw e (le_not n m)

pub flags_ten_eleven : (o m n : ℕ) → 10 ≤ o → o < 12 → leb n m ≡ not (present (slot_at o).kind m n)
flags_ten_eleven o m n h l = elim (ℕ_discrete o 10) [ yes e ↦ flags_ten o m n e | no d ↦ flags_eleven o m n (omega arith) ]

seven_more : (w g : ℕ) → w + (7 * 1 + g) ≡ w + 7 + g
seven_more w g = omega arith

ten_absent : (o : ℕ) (os : List Operand) (ts : List (List ℕ)) (w : ℕ) → o ≡ 10 → present (slot_at o).kind (length os) (length ts) ≡ false
    → w + gathered (cond (eqb o 0) os (slot_at o ∷ os)) ts ≡ w + 7 + gathered os ts
unfolding gathered slot_at
ten_absent o os ts w e p = rw (e, rw e at p) (seven_more w (gathered os ts))

eleven_absent : (o : ℕ) (os : List Operand) (ts : List (List ℕ)) (w : ℕ) → o ≡ 11 → present (slot_at o).kind (length os) (length ts) ≡ false
    → w + gathered (cond (eqb o 0) os (slot_at o ∷ os)) ts ≡ w + 7 + gathered os ts
unfolding gathered slot_at
eleven_absent o os ts w e p = rw (e, rw e at p) (seven_more w (gathered os ts))

absent_case : (o : ℕ) (os : List Operand) (ts : List (List ℕ)) (w : ℕ) → Dec (o ≡ 10) → Dec (o ≡ 11) → present (slot_at o).kind (length os) (length ts) ≡ false
    → w + gathered (cond (eqb o 0) os (slot_at o ∷ os)) ts ≡ w + 7 + gathered os ts
absent_case o os ts w (yes e) d p = ten_absent o os ts w e p
absent_case o os ts w (no e) (yes d) p = eleven_absent o os ts w d p
absent_case o os ts w (no e) (no d) p = absurd (subst T (sym (others o (length os) (length ts) e d ∙ ap not p)) tt)

pub gather_absent : (o : ℕ) (os : List Operand) (ts : List (List ℕ)) (w : ℕ) → present (slot_at o).kind (length os) (length ts) ≡ false
    → w + gathered (cond (eqb o 0) os (slot_at o ∷ os)) ts ≡ w + 7 + gathered os ts
gather_absent o os ts w p = absent_case o os ts w (ℕ_discrete o 10) (ℕ_discrete o 11) p

pub was_false : (t b : Bool) → b ≡ not t → b ≡ true → t ≡ false
was_false true b e f = e' (sym e ∙ f)
  where
    e' : false ≡ true → true ≡ false
    e' q = sym q
was_false false b e f = refl

pub was_true : (t b : Bool) → b ≡ not t → b ≡ false → t ≡ true
was_true true b e f = refl
was_true false b e f = sym f ∙ e

-- one text on
pub gather_on : (o : ℕ) (os : List Operand) (ts : List (List ℕ)) (w v : ℕ) (r : List ℕ × List (List ℕ)) → (o ≡ 0 → ⊥) → present (slot_at o).kind (length os) (length ts) ≡ true
    → r ≡ (get_or ts 0 [], drop 1 ts) → v ≡ taken_at o r.0
    → w + gathered (cond (eqb o 0) os (slot_at o ∷ os)) ts ≡ w + v + gathered os r.1
gather_on o os ts w v r z p e t =
    gather_here o os ts w z p
    ∙ ap (λ (q : List ℕ × List (List ℕ)). w + taken_at o q.0 + gathered os q.1) (sym e)
    ∙ ap (λ (x : ℕ). w + x + gathered os r.1) (sym t)

pub one_less : (ts : List (List ℕ)) (n m : ℕ) (r : List ℕ × List (List ℕ)) → r ≡ (get_or ts 0 [], drop 1 ts) → n ≡ length ts → m ≡ n - 1 → m ≡ length r.1
one_less ts n m r e p q = q ∙ ap (λ (x : ℕ). x - 1) p ∙ sym (length-drop 1 ts) ∙ ap (λ (x : List ℕ × List (List ℕ)). length x.1) (sym e)

pub present_of : (k : Kind) (m n : ℕ) (b : Bool) (os : List Operand) (ts : List (List ℕ)) → length os ≡ m → n ≡ length ts → present k m n ≡ b → present k (length os) (length ts) ≡ b
present_of k m n b os ts e f h = rw (e, ← f) h

-- ---- five places
length_case : (t : Bool) (o : Operand) (os : List Operand) → length (cond t os (o ∷ os)) ≡ length os + cond t 0 1
length_case true o os = omega arith
length_case false o os = omega arith

pub length_listed : (k f : ℕ) → length (listed (suc k) f) ≡ length (listed k (f / 32)) + cond (eqb (f % 32) 0) 0 1
unfolding listed
length_listed k f = length_case (eqb (f % 32) 0) (slot_at (f % 32)) (listed k (f / 32))

abbrev pub Step : ℕ → ℕ → ℕ → List (List ℕ) → ℕ → List (List ℕ) → Type 0
Step o after w ts v us = (os : List Operand) → length os ≡ after → w + gathered (cond (eqb o 0) os (slot_at o ∷ os)) ts ≡ v + gathered os us

one_place : (k f after w v : ℕ) (ts us : List (List ℕ)) → length (listed k (f / 32)) ≡ after → Step (f % 32) after w ts v us → w + gathered (listed (suc k) f) ts ≡ v + gathered (listed k (f / 32)) us
unfolding listed
one_place k f after w v ts us e g = g (listed k (f / 32)) e

no_place : (f : ℕ) (w : ℕ) (ts : List (List ℕ)) → w + gathered (listed 0 f) ts ≡ w
unfolding listed gathered
no_place f w ts = omega arith

no_length : (f : ℕ) → length (listed 0 f) ≡ 0
unfolding listed
no_length f = refl

abbrev pub bit : ℕ → ℕ
bit f = cond (eqb (f % 32) 0) 0 1

pub five_places : (f w w1 w2 w3 w4 w5 n4 m3 m2 m1 : ℕ) (ts ts1 ts2 ts3 ts4 ts5 : List (List ℕ))
    → n4 ≡ bit (f / 32 / 32 / 32 / 32) → m3 ≡ bit (f / 32 / 32 / 32) → m2 ≡ bit (f / 32 / 32) → m1 ≡ bit (f / 32)
    → Step (f % 32) (n4 + m3 + m2 + m1) w ts w1 ts1
    → Step (f / 32 % 32) (n4 + m3 + m2) w1 ts1 w2 ts2
    → Step (f / 32 / 32 % 32) (n4 + m3) w2 ts2 w3 ts3
    → Step (f / 32 / 32 / 32 % 32) n4 w3 ts3 w4 ts4
    → Step (f / 32 / 32 / 32 / 32 % 32) 0 w4 ts4 w5 ts5
    → w5 ≡ w + gathered (listed 5 f) ts
five_places f w w1 w2 w3 w4 w5 n4 m3 m2 m1 ts ts1 ts2 ts3 ts4 ts5 e4 e3 e2 e1 g1 g2 g3 g4 g5 =
    let l0 = no_length (f / 32 / 32 / 32 / 32 / 32) in
    let l1 : length (listed 1 (f / 32 / 32 / 32 / 32)) ≡ n4 = length_listed 0 (f / 32 / 32 / 32 / 32) ∙ omega (arith, l0) in
    let l2 : length (listed 2 (f / 32 / 32 / 32)) ≡ n4 + m3 = length_listed 1 (f / 32 / 32 / 32) ∙ omega arith in
    let l3 : length (listed 3 (f / 32 / 32)) ≡ n4 + m3 + m2 = length_listed 2 (f / 32 / 32) ∙ omega arith in
    let l4 : length (listed 4 (f / 32)) ≡ n4 + m3 + m2 + m1 = length_listed 3 (f / 32) ∙ omega arith in
    sym
    (one_place 4 f (n4 + m3 + m2 + m1) w w1 ts ts1 l4 g1
    ∙ one_place 3 (f / 32) (n4 + m3 + m2) w1 w2 ts1 ts2 l3 g2
    ∙ one_place 2 (f / 32 / 32) (n4 + m3) w2 w3 ts2 ts3 l2 g3
    ∙ one_place 1 (f / 32 / 32 / 32) n4 w3 w4 ts3 ts4 l1 g4
    ∙ one_place 0 (f / 32 / 32 / 32 / 32) 0 w4 w5 ts4 ts5 l0 g5
    ∙ no_place (f / 32 / 32 / 32 / 32 / 32) w5 ts5)
