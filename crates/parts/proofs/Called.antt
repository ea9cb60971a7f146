-- A part: of a run that is over, that is lent pieces of other lengths, that is fed.
use mathlib.Core.Path.{◌≡◌, sym, ap, subst, ◌∙◌}
use mathlib.Core.Bool.{true, false, true≢false}
use mathlib.Core.List.{List}
use Prim.Native.Nat.{ℕ}
use Rattle.terms.specs.declared.End.TheVariants as E
use Rattle.pieces.specs.State.{State, Sized, sized_of}
use Rattle.pieces.proofs.Right.{sized_only}
use Rattle.model.specs.Parts.{Parts, parts, fed, part_of}
use Rattle.model.proofs.Parts.{over_part, part_five, part_fed}
use Rattle.parts.specs.Run.{meant_by, struct_of, given, handed}
use Rattle.parts.specs.Inner.Feed.{Open, open_of, kept_by}
use Rattle.parts.specs.declared.Run.{Run}
use Rattle.parts.proofs.Twelve.{take_twelve}
use Rattle.parts.proofs.Struct.{Fit, meant_fit, over_of, kept_struct}

-- the struct of a run that is not over
module _ (p : Parts) (f : Fit p) (h : p.over ≡ false) where
  open_struct : Open (struct_of p)
  unfolding struct_of
  open_struct = record { going = h; budgeted = f.budgeted; counted = f.counted; few = f.few }

  open_is : open_of (struct_of p) ≡ p
  unfolding struct_of
  open_is = λ i. parts p.budget (sym h i) (sym (f.well h) i) p.steps p.counts (take_twelve p.left f.few i)

-- what a call reads: the struct r, read as x
module _ (r x : Run) (e : x ≡ struct_of (meant_by r)) (bs : List ℕ) (s : State) where
  -- it is over
  pub part_over : x.over ≡ true → given x s ≡ handed (part_of bs (meant_by r) s)
  part_over h = ap (λ (y : Run). given y s) e ∙ ap handed (sym (over_part bs (meant_by r) s (over_of (meant_by r) e ∙ h)))

  -- it is not
  module _ (h : x.over ≡ false) where
    going : (meant_by r).over ≡ false
    going = over_of (meant_by r) e ∙ h

    pub part_open : Open x
    part_open = subst Open (sym e) (open_struct (meant_by r) (meant_fit r) going)

    -- pieces of other lengths
    pub part_lengths : sized_of s ≡ false → (y : Run) → y ≡ kept_by E.Lengths x → given y s ≡ handed (part_of bs (meant_by r) s)
    part_lengths f y q =
        ap (λ (z : Run). given z s) (q ∙ ap (kept_by E.Lengths) e ∙ kept_struct E.Lengths (meant_by r))
        ∙ ap handed (sym (part_five bs (meant_by r) s going (λ z. true≢false (sym (sized_only s z) ∙ f))))

    -- of right lengths
    pub part_feeds : Sized s → (y : Run) (t : State) → given y t ≡ handed (fed bs (open_of x) s) → given y t ≡ handed (part_of bs (meant_by r) s)
    part_feeds z y t q =
        q ∙ ap handed (ap (λ (p : Parts). fed bs p s) (ap open_of e ∙ open_is (meant_by r) (meant_fit r) going) ∙ sym (part_fed bs (meant_by r) s z))
