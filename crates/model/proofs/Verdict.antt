-- The verdict of `may_swap` is demand 3's premise, both ways: where it says free, the two may be swapped.
use mathlib.Core.Path.{◌≡◌, refl, sym, ap, ◌∙◌, subst}
use mathlib.Core.Logic.{◌⊎◌, inl, inr, ⊎_elim}
use Prim.Native.Nat.{ℕ, ◌<◌}
use native.Mathlib.Omega.{arith}
use mathlib.Core.Bool.{Bool, true, false, cond, ◌||◌}
use mathlib.Core.List.Memᴰ
use mathlib.Core.List.{List, [], ◌∷◌, ◌++◌, Memᴰ}
use borrow.Author.Tests.{eqb-true, eq-eqb}
use lib.Dec.{eqb}
use Rattle.words.specs.Table.{decode_of}
use Rattle.words.specs.Inner.Bounded.{Bounded, BoundedD}
use Rattle.words.specs.Insn.{Insn}
use Rattle.words.specs.Decoded.{Decoded}
use Rattle.words.specs.Decoded as D
use Rattle.words.proofs.Bound.{bounded}
use Rattle.pieces.specs.State.{State, Sized, sized_of}
use Rattle.pieces.specs.Place.{Place, xlat}
use Rattle.model.specs.Table.{reads, writes}
use Rattle.model.specs.Claims.{Apart, Free, Swapped}
use Rattle.model.specs.Number.{number, reads_of, writes_of, touches_of}
use Rattle.model.specs.Swap.{has, Verdict, verdict, first_in, free, verdict_of, swap_outcome, swap_decoded, swap_of}
use Rattle.pieces.proofs.Right.{clash, sized_if, sized_only}
use Rattle.model.proofs.Refused.{refusal_range}
use Rattle.model.proofs.Commute.{swapped}
use Rattle.model.proofs.Numbered.{There, number_lt, number_inj}
use Rattle.model.proofs.Touched.{reads_there, writes_there}

-- ---- a list's test and its first

-- the test of a list says whether the number is in it
has_in : (x : ℕ) (ys : List ℕ) → has x ys ≡ true → Memᴰ x ys
has_in x [] e = absurd (clash e)
has_in x (y ∷ ys) e = go (eqb x y) (eqb-true x y) (has_in x ys) e
  where
    go : (b : Bool) → (b ≡ true → x ≡ y) → (has x ys ≡ true → Memᴰ x ys) → b || has x ys ≡ true → Memᴰ x (y ∷ ys)
    go true f g e = Memᴰ.head (f refl)
    go false f g e = Memᴰ.tail (g e)

in_has : (x : ℕ) (ys : List ℕ) → Memᴰ x ys → has x ys ≡ true
in_has x [] m = absurd (Memᴰ.not-nil m)
in_has x (y ∷ ys) m = go (eqb x y) (eq-eqb x y) (in_has x ys) (Memᴰ.cases_cons m)
  where
    go : (b : Bool) → (x ≡ y → b ≡ true) → (Memᴰ x ys → has x ys ≡ true) → (x ≡ y) ⊎ Memᴰ x ys → b || has x ys ≡ true
    go true f g h = refl
    go false f g (inl e) = absurd (clash (f e))
    go false f g (inr m) = g m

-- no number is in both lists
abbrev pub Disjoint : List ℕ → List ℕ → Type 0
Disjoint xs ys = (x : ℕ) → Memᴰ x xs → Memᴰ x ys → ⊥

-- the verdict names a number that stands in both lists, and the writer w
pub record Both (xs ys : List ℕ) (w : ℕ) (v : Verdict) : Type 0 where
  pub clash : v.clash ≡ 1
  pub writer : v.writer ≡ w
  pub written : Memᴰ v.place xs
  pub touched : Memᴰ v.place ys

module _ (ys : List ℕ) (w : ℕ) (v : Verdict) where
  -- no clash is found where there is none
  passes : (xs : List ℕ) → Disjoint xs ys → first_in xs ys w v ≡ v
  passes [] h = refl
  passes (x ∷ xs) h = go (has x ys) (has_in x ys) (passes xs (λ y m. h y (Memᴰ.tail m)))
    where
      go : (b : Bool) → (b ≡ true → Memᴰ x ys) → first_in xs ys w v ≡ v → cond b (verdict 1 x w) (first_in xs ys w v) ≡ v
      go true f e = absurd (h x (Memᴰ.head refl) (f refl))
      go false f e = e

  -- and where no clash is found, there is none, and what stands last says none either
  found_none : (xs : List ℕ) → (first_in xs ys w v).clash ≡ 0 → Disjoint xs ys × (v.clash ≡ 0)
  found_none [] e = ((λ x m n. Memᴰ.not-nil m), e)
  found_none (x ∷ xs) e = go (has x ys) (in_has x ys) (found_none xs) e
    where
      go : (b : Bool) → (Memᴰ x ys → b ≡ true) → ((first_in xs ys w v).clash ≡ 0 → Disjoint xs ys × (v.clash ≡ 0))
          → (cond b (verdict 1 x w) (first_in xs ys w v)).clash ≡ 0 → Disjoint (x ∷ xs) ys × (v.clash ≡ 0)
      go true f g e = absurd (omega arith)
      go false f g e =
          ((λ y m n. ⊎_elim (λ (d : y ≡ x). clash (f (Memᴰ.cast (sym d) n))) (λ (k : Memᴰ y xs). (g e).0 y k n) (Memᴰ.cases_cons m)), (g e).1)

  -- a clash is one that was found here, or later
  found : (xs : List ℕ) → Both xs ys w (first_in xs ys w v) ⊎ (first_in xs ys w v ≡ v)
  found [] = inr refl
  found (x ∷ xs) = go (has x ys) (has_in x ys) (found xs)
    where
      go : (b : Bool) → (b ≡ true → Memᴰ x ys) → Both xs ys w (first_in xs ys w v) ⊎ (first_in xs ys w v ≡ v)
          → let r = cond b (verdict 1 x w) (first_in xs ys w v) in Both (x ∷ xs) ys w r ⊎ (r ≡ v)
      go true f h = inl (record { clash = refl; writer = refl; written = Memᴰ.head refl; touched = f refl })
      go false f (inl h) = inl (record { clash = h.clash; writer = h.writer; written = Memᴰ.tail h.written; touched = h.touched })
      go false f (inr e) = inr e

-- ---- numbers and places

-- the numbers of what an instruction touches are those of its reads and its writes
touched : (i : Insn) (s : State) (p : Place) → Memᴰ p (reads xlat i s ++ writes xlat i s) → Memᴰ (number p) (touches_of i s)
unfolding reads_of writes_of
touched i s p m =
    ⊎_elim (λ (k : Memᴰ p (reads xlat i s)). Memᴰ.append_left (writes_of i s) (Memᴰ.map number k))
    (λ (k : Memᴰ p (writes xlat i s)). Memᴰ.append_right (reads_of i s) (Memᴰ.map number k))
    (Memᴰ.append_cases (reads xlat i s) m)

-- a place that has the number, is touched, and is there
record Named (ps : List Place) (x : ℕ) : Type 0 where
  place : Place
  among : Memᴰ place ps
  numbered : number place ≡ x
  there : There place

module _ (i : Insn) (s : State) (h : Bounded i) where
  named_write : (x : ℕ) → Memᴰ x (writes_of i s) → Named (writes xlat i s) x
  unfolding writes_of
  named_write x m =
      let n = Memᴰ.of_map number (writes xlat i s) m in
      record { place = n.0; among = n.1; numbered = n.2; there = writes_there i s h n.0 n.1 }

  named_read : (x : ℕ) → Memᴰ x (reads_of i s) → Named (reads xlat i s) x
  unfolding reads_of
  named_read x m =
      let n = Memᴰ.of_map number (reads xlat i s) m in
      record { place = n.0; among = n.1; numbered = n.2; there = reads_there i s h n.0 n.1 }

  named_touch : (x : ℕ) → Memᴰ x (touches_of i s) → Named (reads xlat i s ++ writes xlat i s) x
  named_touch x m = ⊎_elim {C = Named (reads xlat i s ++ writes xlat i s) x} (λ k. left (named_read x k)) (λ k. right (named_write x k)) (Memᴰ.append_cases (reads_of i s) m)
    where
      left : Named (reads xlat i s) x → Named (reads xlat i s ++ writes xlat i s) x
      left n = record { place = n.place; among = Memᴰ.append_left (writes xlat i s) n.among; numbered = n.numbered; there = n.there }

      right : Named (writes xlat i s) x → Named (reads xlat i s ++ writes xlat i s) x
      right n = record { place = n.place; among = Memᴰ.append_right (reads xlat i s) n.among; numbered = n.numbered; there = n.there }

-- every number of a bounded instruction's places is below 8,336
pub touches_lt : (i : Insn) (s : State) → Bounded i → (x : ℕ) → Memᴰ x (touches_of i s) → x < 8336
touches_lt i s h x m =
    let n : Named (reads xlat i s ++ writes xlat i s) x = named_touch i s h x m in
    subst (λ (y : ℕ). y < 8336) n.numbered (number_lt n.place n.there)

-- lists of places are apart where their numbers are
apart_of : (i j : Insn) (s : State) → Disjoint (writes_of i s) (touches_of j s) → Apart (writes xlat i s) (reads xlat j s ++ writes xlat j s)
unfolding writes_of
apart_of i j s h p m n = h (number p) (Memᴰ.map number m) (touched j s p n)

-- and of bounded instructions only there
disjoint_of : (i j : Insn) (s : State) → Bounded i → Bounded j → Apart (writes xlat i s) (reads xlat j s ++ writes xlat j s)
    → Disjoint (writes_of i s) (touches_of j s)
disjoint_of i j s hi hj h x m n =
    let p : Named (writes xlat i s) x = named_write i s hi x m in
    let q : Named (reads xlat j s ++ writes xlat j s) x = named_touch j s hj x n in
    let e : p.place ≡ q.place = number_inj p.place q.place p.there q.there (p.numbered ∙ sym q.numbered) in
    h p.place p.among (Memᴰ.cast e q.among)

-- ---- the verdict

module _ (i j : Insn) (s : State) where
  -- a verdict without a clash is demand 3's premise
  pub free_of_clash : (verdict_of i j s).clash ≡ 0 → Free xlat i j s
  unfolding verdict_of
  free_of_clash e =
      let a = found_none (touches_of j s) 1 (first_in (writes_of j s) (touches_of i s) 2 free) (writes_of i s) e in
      let b = found_none (touches_of i s) 2 free (writes_of j s) a.1 in
      record { first = apart_of i j s a.0; second = apart_of j i s b.0 }

  -- the verdict "free" is demand 3's premise
  pub free_if : verdict_of i j s ≡ free → Free xlat i j s
  free_if e = free_of_clash (ap (λ (v : Verdict). v.clash) e)

  -- and the premise gives the verdict "free", for instructions whose registers are there
  pub free_only : Bounded i → Bounded j → Free xlat i j s → verdict_of i j s ≡ free
  unfolding verdict_of
  free_only hi hj h =
      passes (touches_of j s) 1 (first_in (writes_of j s) (touches_of i s) 2 free) (writes_of i s) (disjoint_of i j s hi hj h.first)
      ∙ passes (touches_of i s) 2 free (writes_of j s) (disjoint_of j i s hj hi h.second)

  -- a clash: 1, a place that the first writes and the second touches; 2, one that
  -- the second writes and the first touches
  abbrev pub Clash : Verdict → Type 0
  Clash v = Both (writes_of i s) (touches_of j s) 1 v ⊎ Both (writes_of j s) (touches_of i s) 2 v

  -- the verdict is "free", or names a clash
  pub verdict_is : (verdict_of i j s ≡ free) ⊎ Clash (verdict_of i j s)
  unfolding verdict_of
  verdict_is =
      let u : Verdict = first_in (writes_of j s) (touches_of i s) 2 free in
      go u (found (touches_of i s) 2 free (writes_of j s)) (found (touches_of j s) 1 u (writes_of i s))
    where
      go : (u : Verdict) → Both (writes_of j s) (touches_of i s) 2 u ⊎ (u ≡ free)
          → let v = first_in (writes_of i s) (touches_of j s) 1 u in Both (writes_of i s) (touches_of j s) 1 v ⊎ (v ≡ u) → (v ≡ free) ⊎ Clash v
      go u h (inl k) = inr (inl k)
      go u (inl h) (inr d) = inr (inr (subst (Both (writes_of j s) (touches_of i s) 2) (sym d) h))
      go u (inr c) (inr d) = inl (d ∙ c)

  -- where the verdict says clash, the place and the writer that it names are one
  pub clash_is : (verdict_of i j s).clash ≡ 1 → Clash (verdict_of i j s)
  clash_is e = go verdict_is
    where
      go : (verdict_of i j s ≡ free) ⊎ Clash (verdict_of i j s) → Clash (verdict_of i j s)
      go (inl d) = absurd (omega (arith, ap (λ (v : Verdict). v.clash) d))
      go (inr k) = k

-- ---- the whole call

-- two triples that are accepted in a state of right lengths and may be swapped there
pub record MaySwap (w side mask w' side' mask' : ℕ) (s : State) : Type 0 where
  pub one : Insn
  pub other : Insn
  pub sized : Sized s
  pub first : decode_of w side mask ≡ D.Insn one
  pub second : decode_of w' side' mask' ≡ D.Insn other
  pub swap : Swapped w side mask w' side' mask' one other s

module _ (w side mask w' side' mask' : ℕ) (s : State) where
  -- the answer 0 with clash 0 has demand 3 behind it: both orders are accepted, count the same, and end in one state
  pub swap_free : let o = swap_of w side mask w' side' mask' s in o.number ≡ 0 → o.verdict.clash ≡ 0 → MaySwap w side mask w' side' mask' s
  unfolding swap_of
  swap_free = go (sized_of s) (sized_if s) (decode_of w side mask) (decode_of w' side' mask') refl refl
    where
      go : (b : Bool) → (b ≡ true → Sized s) → (d e : Decoded) → decode_of w side mask ≡ d → decode_of w' side' mask' ≡ e
          → let o = cond b (swap_decoded d e s) (swap_outcome 5 free) in o.number ≡ 0 → o.verdict.clash ≡ 0 → MaySwap w side mask w' side' mask' s
      go false z d e p q n c = absurd (omega arith)
      go true z (D.Refused k) e p q n c = absurd (omega (arith, refusal_range k))
      go true z (D.Insn i) (D.Refused k) p q n c = absurd (omega (arith, refusal_range k))
      go true z (D.Insn i) (D.Insn j) p q n c =
          record {
            one = i;
            other = j;
            sized = z refl;
            first = p;
            second = q;
            swap = swapped w side mask w' side' mask' i j s (z refl) p q (free_of_clash i j s c);
          }

  -- and two accepted triples that are free of each other get that answer
  pub free_answer : (i j : Insn) → Sized s → decode_of w side mask ≡ D.Insn i → decode_of w' side' mask' ≡ D.Insn j → Free xlat i j s
      → swap_of w side mask w' side' mask' s ≡ swap_outcome 0 free
  unfolding swap_of
  free_answer i j z p q h =
      let hi : Bounded i = subst BoundedD p (bounded w side mask) in
      let hj : Bounded j = subst BoundedD q (bounded w' side' mask') in
      rw (sized_only s z, p, q) (ap (swap_outcome 0) (free_only i j s hi hj h))
