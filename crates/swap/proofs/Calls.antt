-- What the two calls come to, from what decode answers and what the footprints list.
use mathlib.Core.Path.{◌≡◌, refl, sym, ap, ◌∙◌, subst, subst⁻¹}
use Prim.Native.Nat.{ℕ, ◌-◌, ◌≤◌, ◌<◌}
use mathlib.Core.Bool.{Bool, true, false, cond}
use mathlib.Core.List.{List, [], ◌∷◌}
use borrow.Author.Tests.{le-leb, lt-leb}
use lib.ListN.{length, drop}
use lib.Seq.{sets}
use Rattle.terms.specs.declared.Refusal.{Refusal}
use Rattle.terms.specs.declared.End.{End}
use Rattle.terms.specs.declared.End.TheVariants as E
use Rattle.words.specs.Inner.Bounded.{Bounded, BoundedD}
use Rattle.words.specs.Table.{decode_of}
use Rattle.words.specs.Insn.{Insn}
use Rattle.words.specs.Decoded.{Decoded}
use Rattle.words.specs.Decoded as D
use Rattle.words.proofs.Bound.{bounded}
use Rattle.pieces.specs.State.{State, sized_of}
use Rattle.model.specs.Number.{touches_of, reads_of}
use Rattle.model.specs.Swap.{has, Verdict, verdict, first_in, free, verdict_of, swap_outcome, swap_of, PlacesOutcome, places_outcome, places_of}
use Rattle.model.proofs.Touched.{touches_le}
use Rattle.footprint.specs.Inner.Numbers.{held, lent, footprint_of}
use Rattle.footprint.specs.declared.Touches.{Touches}
use Rattle.footprint.proofs.Foot.{numbers_of, lent_footprint, footprint_is, held_all, held_written, reads_le, writes_are}
use Rattle.swap.specs.Answers.{told, swap_answer, list_answer}
use Rattle.std.specs.Prelude.{Some, None}
use Rattle.std.specs.declared.option.Option.{Option}
use Rattle.swap.specs.Inner.Calls.{first_of}
use Rattle.swap.specs.declared.Clash.{Clash}
use Rattle.swap.specs.declared.Swap.{Swap}
use Rattle.swap.specs.declared.Listed.{Listed}

-- ---- the search

-- the verdict of a search, whose writer is w; v where nothing was found
verdict_if : Option ℕ → ℕ → Verdict → Verdict
verdict_if (Some p) w v = verdict 1 p w
verdict_if None w v = v

searched : (xs ys : List ℕ) (w : ℕ) (v : Verdict) → first_in xs ys w v ≡ verdict_if (first_of xs ys) w v
unfolding verdict_if
searched [] ys w v = refl
searched (x ∷ xs) ys w v = go (has x ys) (searched xs ys w v)
  where
    go : (b : Bool) → first_in xs ys w v ≡ verdict_if (first_of xs ys) w v
        → cond b (verdict 1 x w) (first_in xs ys w v) ≡ verdict_if (cond b (Some x) (first_of xs ys)) w v
    go true e = refl
    go false e = e

-- what a footprint's writes are
abbrev written : Touches → List ℕ
written f = drop f.reads (held f.list)

-- two footprints compared
abbrev compared : Touches → Touches → Verdict
compared f g = first_in (written f) (held g.list) 1 (first_in (written g) (held f.list) 2 free)

-- a search that found z
found : (xs ys : List ℕ) (w : ℕ) (v : Verdict) {x : Option ℕ} (z : Option ℕ) → x ≡ first_of xs ys → x ≡ z → first_in xs ys w v ≡ verdict_if z w v
found xs ys w v z e h = searched xs ys w v ∙ ap (λ (y : Option ℕ). verdict_if y w v) (sym e ∙ h)

module _ (f g : Touches) {x : Option ℕ} (e : x ≡ first_of (written f) (held g.list)) where
  one : (z : Option ℕ) → x ≡ z → compared f g ≡ verdict_if z 1 (first_in (written g) (held f.list) 2 free)
  one z = found (written f) (held g.list) 1 (first_in (written g) (held f.list) 2 free) z e

  pub clash_first : {p : ℕ} → x ≡ Some p → told (Some (record { place = p; writer = 1 })) ≡ compared f g
  unfolding verdict_if
  clash_first {p} h = sym (one (Some p) h)

  module _ (h : x ≡ None) {y : Option ℕ} (e' : y ≡ first_of (written g) (held f.list)) where
    two : (z : Option ℕ) → y ≡ z → compared f g ≡ verdict_if z 2 free
    unfolding verdict_if
    two z k = one None h ∙ found (written g) (held f.list) 2 free z e' k

    pub clash_second : {p : ℕ} → y ≡ Some p → told (Some (record { place = p; writer = 2 })) ≡ compared f g
    unfolding verdict_if
    clash_second {p} k = sym (two (Some p) k)

    pub clash_none : y ≡ None → told None ≡ compared f g
    unfolding verdict_if
    clash_none k = sym (two None k)

-- ---- decode

-- what is decoded names registers that are there
pub named : (word side mask : ℕ) {d : Decoded} {i : Insn} → d ≡ decode_of word side mask → d ≡ D.Insn i → Bounded i
named word side mask e f = subst BoundedD f (subst⁻¹ BoundedD e (bounded word side mask))

-- ---- footprints

-- all that an instruction touches
abbrev all : Insn → State → Touches
all i s = record { list = numbers_of (touches_of i s); reads = length (reads_of i s) }

-- $a as the array that it was found to be
pub of_array : (i : Insn) {a b : List ℕ} {f : Touches} → f ≡ footprint_of i (lent a) → a ≡ b → f ≡ footprint_of i (lent b)
of_array i e same = e ∙ ap (λ (l : List ℕ). footprint_of i (lent l)) same

module _ (i : Insn) (s : State) {f : Touches} (e : f ≡ footprint_of i (lent s.a)) where
  is : f ≡ all i s
  is = e ∙ lent_footprint i s ∙ footprint_is i s

  pub small : f.list.count ≤ 22
  small = rw is (touches_le i s)

  pub ordered : f.reads ≤ f.list.count
  ordered = rw is (reads_le i s)

verdict_of_lem : (i j : Insn) (s : State) → compared (all i s) (all j s) ≡ verdict_of i j s
unfolding verdict_of
verdict_of_lem i j s = rw (held_written i s, held_written j s, held_all i s, held_all j s)

-- ---- may_swap

abbrev unswapped : End → Swap
unswapped e = record { end = e; clash = None }

module _ (w side mask w' side' mask' : ℕ) (s : State) where
  pub unfit : {x : Swap} → x ≡ unswapped E.Lengths → sized_of s ≡ false → swap_answer x ≡ swap_of w side mask w' side' mask' s
  unfolding swap_of
  unfit g e = rw (g, e) refl

  module _ (fit : sized_of s ≡ true) {d : Decoded} (e : d ≡ decode_of w side mask) where
    pub first_refused : {k : Refusal} {x : Swap} → d ≡ D.Refused k → x ≡ unswapped (E.Refused k)
        → swap_answer x ≡ swap_of w side mask w' side' mask' s
    unfolding swap_of
    first_refused f g = rw (g, fit, ← e, f) refl

    module _ {i : Insn} (f : d ≡ D.Insn i) {d' : Decoded} (e' : d' ≡ decode_of w' side' mask') where
      pub second_refused : {k : Refusal} {x : Swap} → d' ≡ D.Refused k → x ≡ unswapped (E.Refused k)
          → swap_answer x ≡ swap_of w side mask w' side' mask' s
      unfolding swap_of
      second_refused f' g = rw (g, fit, ← e, f, ← e', f') refl

      pub swapping : {j : Insn} {m n : Touches} {v : Verdict} → d' ≡ D.Insn j → m ≡ footprint_of i (lent s.a) → n ≡ footprint_of j (lent s.a)
          → v ≡ compared m n → swap_outcome 0 v ≡ swap_of w side mask w' side' mask' s
      unfolding swap_of
      swapping {j} f' p q g = rw (g, is i s p, is j s q, verdict_of_lem i j s, fit, ← e, f, ← e', f') refl

-- ---- places

abbrev unlisted : End → Listed
unlisted e = record { end = e; reads = 0; writes = 0 }

module _ (w side mask : ℕ) (s : State) (b : List ℕ) where
  pub unfit_pieces : {x : Listed} → x ≡ unlisted E.Lengths → sized_of s ≡ false → list_answer x b ≡ places_of w side mask s b
  unfolding places_of
  unfit_pieces g e = rw (g, e) refl

  module _ (fit : sized_of s ≡ true) where
    pub unfit_buffer : {x : Listed} → x ≡ unlisted E.Lengths → length b < 22 → list_answer x b ≡ places_of w side mask s b
    unfolding places_of
    unfit_buffer g h = rw (g, fit, lt-leb 22 (length b) h) refl

    module _ (wide : 22 ≤ length b) {d : Decoded} (e : d ≡ decode_of w side mask) where
      pub refused : {k : Refusal} {x : Listed} → d ≡ D.Refused k → x ≡ unlisted (E.Refused k) → list_answer x b ≡ places_of w side mask s b
      unfolding places_of
      refused f g = rw (g, fit, le-leb 22 (length b) wide, ← e, f) refl

      pub listed : {i : Insn} {m : Touches} {o : PlacesOutcome} → d ≡ D.Insn i → m ≡ footprint_of i (lent s.a)
          → o ≡ places_outcome 0 m.reads (m.list.count - m.reads) (sets b 0 (held m.list)) → o ≡ places_of w side mask s b
      unfolding places_of
      listed {i} f p g = rw (g, is i s p, writes_are i s, held_all i s, fit, le-leb 22 (length b) wide, ← e, f) refl
