-- What a call of a run in parts tells: where the words have another length, and where they hold a run.
use mathlib.Core.Path.{◌≡◌, refl, ap, ◌∙◌}
use mathlib.Core.List.{List}
use Prim.Native.Nat.{ℕ}
use borrow.Author.Tests.{eq-eqb, ne_eqb}
use lib.ListN.{length}
use Rattle.terms.specs.Answers.{number}
use Rattle.terms.specs.Counts.{none}
use Rattle.terms.specs.declared.End.TheVariants as E
use Rattle.pieces.specs.State.{State}
use Rattle.model.specs.Parts.{begun, part_of, end_of}
use Rattle.parts.specs.Run.{meant_by, struct_of, Handed, given, handed}
use Rattle.parts.specs.Words.{worded, unworded, Told, told, part_told, telling, begin_call, part_call, end_call}
use Rattle.parts.specs.declared.Run.{Run}

-- words that a run is kept in, and the number that is returned
module _ (n : ℕ) (ws : List ℕ) where
  -- of another length
  module _ (h : length ws ≡ 16 → ⊥) (e : n ≡ number E.Lengths) where
    pub begin_unlent : (b : ℕ) → told n 0 none ws ≡ begin_call b ws
    unfolding begin_call
    begin_unlent b = rw (ne_eqb (length ws) 16 h, e) refl

    pub part_unlent : (bs : List ℕ) (s : State) → part_told (told n 0 none ws) s ≡ part_call bs ws s
    unfolding part_call
    part_unlent bs s = rw (ne_eqb (length ws) 16 h, e) refl

    pub end_unlent : told n 0 none ws ≡ end_call ws
    unfolding end_call
    end_unlent = rw (ne_eqb (length ws) 16 h, e) refl

  -- of sixteen; x is the run that is handed back, and us its words
  module _ (h : length ws ≡ 16) (x : Run) (us : List ℕ) (w : us ≡ worded x) where
    pub begin_told : (b : ℕ) → x ≡ struct_of (begun b) → n ≡ number E.Done → told n 0 none us ≡ begin_call b ws
    unfolding begin_call struct_of
    begin_told b e m = rw (eq-eqb (length ws) 16 h, m, w, e) refl

    module _ (m : n ≡ number x.end) where
      whole : told n x.steps x.counts us ≡ telling x
      whole = rw (m, w) refl

      pub part_told_lem : (bs : List ℕ) (s t : State) (r : Run) → r ≡ unworded ws → given x t ≡ handed (part_of bs (meant_by r) s)
          → part_told (told n x.steps x.counts us) t ≡ part_call bs ws s
      unfolding part_call
      part_told_lem bs s t r e g =
          ap (λ (y : Told). part_told y t) whole
          ∙ ap (λ (z : Handed). part_told (telling z.run) z.after) (g ∙ ap (λ (z : Run). handed (part_of bs (meant_by z) s)) e)
          ∙ rw (eq-eqb (length ws) 16 h) refl

      pub end_told : (r : Run) → r ≡ unworded ws → x ≡ struct_of (end_of (meant_by r)) → told n x.steps x.counts us ≡ end_call ws
      unfolding end_call
      end_told r e g = whole ∙ ap telling (g ∙ ap (λ (z : Run). struct_of (end_of (meant_by z))) e) ∙ rw (eq-eqb (length ws) 16 h) refl
