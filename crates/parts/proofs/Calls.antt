-- The calls over sixteen words, one after the other, come to the list call.
use mathlib.Core.Path.{◌≡◌, refl, ap, subst, ◌∙◌}
use mathlib.Core.Bool.{true, cond}
use mathlib.Core.List.{List, [], ◌∷◌, ◌++◌}
use Prim.Native.Nat.{ℕ, ◌%◌, ◌<◌}
use borrow.Author.Tests.{eq-eqb}
use lib.Dec.{eqb}
use lib.ListN.{length, get_or}
use Rattle.pieces.specs.State.{State, Sized}
use Rattle.model.specs.Run.{RunOutcome, run_of}
use Rattle.model.specs.Parts.{words_of, bytes_of, Parts, Went, begun, part_of, end_of, parts_of, whole, in_parts}
use Rattle.model.proofs.Kept.{Good, begun_good, part_good}
use Rattle.model.proofs.Parts.{over_part, over_end, in_parts_list, in_parts_ragged}
use Rattle.parts.specs.Run.{struct_of}
use Rattle.parts.specs.Words.{worded, Told, PartTold, part_told, telling, begin_call, part_call, end_call}
use Rattle.parts.proofs.Back.{kept_back, length_worded}
use Rattle.parts.proofs.Runs.{Bytes, parts_good, end_tells, list_bytes}

-- ---- one call, of words that a call left

-- sixteen words of any content become a new run's
begin_told : (budget : ℕ) (run : List ℕ) → length run ≡ 16 → begin_call budget run ≡ telling (struct_of (begun budget))
unfolding begin_call
begin_told budget run h = rw (eq-eqb (length run) 16 h) refl

module _ (p : Parts) (g : Good p) where
  -- a part and the end call do to the run what the definition says
  part_told_lem : (bs : List ℕ) (s : State)
      → part_call bs (worded (struct_of p)) s ≡ (let w : Went = part_of bs p s in part_told (telling (struct_of w.run)) w.after)
  unfolding part_call
  part_told_lem bs s = rw (length_worded (struct_of p), kept_back p g) refl

  end_told : end_call (worded (struct_of p)) ≡ telling (struct_of (end_of p))
  unfolding end_call
  end_told = rw (length_worded (struct_of p), kept_back p g) refl

  -- where the run is over, nothing changes: a part and the end call give the same answer, steps and counts, and leave the same words and pieces
  pub over_stays : p.over ≡ true → (bs : List ℕ) (s : State)
      → (part_call bs (worded (struct_of p)) s ≡ part_told (telling (struct_of p)) s) × (end_call (worded (struct_of p)) ≡ telling (struct_of p))
  over_stays h bs s = (
    part_told_lem bs s ∙ ap (λ (w : Went). part_told (telling (struct_of w.run)) w.after) (over_part bs p s h),
    end_told ∙ ap (λ (q : Parts). telling (struct_of q)) (over_end p h),
  )

-- ---- parts one after the other

-- the words and the pieces after parts one after the other
abbrev pub calls : List (List ℕ) → List ℕ → State → List ℕ × State
calls [] ws s = (ws, s)
calls (bs ∷ cut) ws s = let t : PartTold = part_call bs ws s in calls cut t.run.words t.after

-- the words of a good run become those of the run that the parts come to, and the pieces become what they come to
pub calls_are : (cut : List (List ℕ)) (p : Parts) (s : State) → Good p → Bytes cut
    → calls cut (worded (struct_of p)) s ≡ (worded (struct_of (parts_of cut p s).run), (parts_of cut p s).after)
calls_are [] p s g f = refl
calls_are (bs ∷ cut) p s g f =
    let w : Went = part_of bs p s in
    ap (λ (t : PartTold). calls cut t.run.words t.after) (part_told_lem p g bs s) ∙ calls_are cut w.run w.after (part_good bs p s g f.0) f.1

-- ---- a run begun, fed in parts, and ended

-- sixteen words of any content, begun; bytes handed over in parts; then the end call: the answer, the steps, the counts and the pieces are the definition's
pub calls_parts : (budget : ℕ) (cut : List (List ℕ)) (s : State) (run : List ℕ) → length run ≡ 16 → Bytes cut
    → let c : List ℕ × State = calls cut (begin_call budget run).words s in
    let e : Told = end_call c.0 in
    let w : Went = in_parts budget cut s in
    (e.number ≡ w.run.number) × (e.steps ≡ w.run.steps) × (e.counts ≡ w.run.counts) × (c.1 ≡ w.after)
calls_parts budget cut s run l f =
    let w : Went = parts_of cut (begun budget) s in
    let g : Good w.run = parts_good cut (begun budget) s (begun_good budget) f in
    let a : calls cut (begin_call budget run).words s ≡ (worded (struct_of w.run), w.after) =
    ap (λ (t : Told). calls cut t.words s) (begin_told budget run l) ∙ calls_are cut (begun budget) s (begun_good budget) f in
    let d : end_call (calls cut (begin_call budget run).words s).0 ≡ telling (struct_of (end_of w.run)) =
    ap (λ (c : List ℕ × State). end_call c.0) a ∙ end_told w.run g in
    let t = end_tells w.run g in (
      ap (λ (t : Told). t.number) d ∙ t.0,
      ap (λ (t : Told). t.steps) d ∙ t.1,
      ap (λ (t : Told). t.counts) d ∙ t.2,
      ap (λ (c : List ℕ × State). c.1) a,
    )

-- for C: of the bytes of a list of whole triples, however cut, they are those of the list call
pub calls_list : (budget : ℕ) (ws : List ℕ) (cut : List (List ℕ)) (s : State) (run : List ℕ) → length run ≡ 16 → Sized s
    → ((i : ℕ) → i < length ws → get_or ws i 0 < 4294967296) → length ws % 3 ≡ 0 → whole cut ≡ bytes_of ws
    → let o : RunOutcome = run_of budget ws s in
    let c : List ℕ × State = calls cut (begin_call budget run).words s in
    let e : Told = end_call c.0 in
    (e.number ≡ o.number) × (e.steps ≡ o.steps) × (e.counts ≡ o.counts) × (c.1 ≡ o.after)
calls_list budget ws cut s run l z f h e =
    subst
    (λ (w : Went).
    let c : List ℕ × State = calls cut (begin_call budget run).words s in
    let t : Told = end_call c.0 in
    (t.number ≡ w.run.number) × (t.steps ≡ w.run.steps) × (t.counts ≡ w.run.counts) × (c.1 ≡ w.after))
    (in_parts_list budget ws cut s z f h e)
    (calls_parts budget cut s run l (list_bytes ws cut e))

-- of bytes that end inside a triple, they are those of the whole triples, 6 in the place of 0
pub calls_ragged : (budget : ℕ) (xs ys : List ℕ) (cut : List (List ℕ)) (s : State) (run : List ℕ) → length run ≡ 16 → Sized s → Bytes cut
    → whole cut ≡ xs ++ ys → length xs % 12 ≡ 0 → 0 < length ys → length ys < 12
    → let o : RunOutcome = run_of budget (words_of xs) s in
    let c : List ℕ × State = calls cut (begin_call budget run).words s in
    let e : Told = end_call c.0 in
    (e.number ≡ cond (eqb o.number 0) 6 o.number) × (e.steps ≡ o.steps) × (e.counts ≡ o.counts) × (c.1 ≡ o.after)
calls_ragged budget xs ys cut s run l z f e h m k =
    let t = calls_parts budget cut s run l f in
    let r = in_parts_ragged budget xs ys cut s z e h m k in
    (t.0 ∙ r.0, t.1 ∙ r.1, t.2 ∙ r.2, t.3 ∙ r.3)
