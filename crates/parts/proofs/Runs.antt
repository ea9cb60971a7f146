-- The calls over the struct, one after the other, come to the list call: a run begun, handed on by value from part to part, and ended.
use mathlib.Core.Path.{◌≡◌, refl, sym, ap, subst, ◌∙◌}
use mathlib.Core.Bool.{true, cond}
use mathlib.Core.List.{List, [], ◌∷◌, ◌++◌}
use Prim.Native.Nat.{ℕ, zero, suc, ◌+◌, ◌%◌, ◌<◌}
use native.Mathlib.Omega.{arith}
use lib.Dec.{eqb}
use lib.ListN.{length, get_or, length-append, get_or-append}
use lib.Seq.{get_or-append-add}
use Rattle.terms.specs.Answers.{number}
use Rattle.pieces.specs.State.{State, Sized}
use Rattle.model.specs.Run.{RunOutcome, run_of}
use Rattle.model.specs.Parts.{words_of, bytes_of, Parts, Went, begun, part_of, end_of, parts_of, whole, in_parts}
use Rattle.model.proofs.Kept.{Good, begun_good, part_good, end_good}
use Rattle.model.proofs.Parts.{over_part, over_end, in_parts_list, in_parts_ragged}
use Rattle.parts.specs.Run.{meant_by, struct_of, Handed, given, handed}
use Rattle.parts.specs.declared.Run.{Run}
use Rattle.parts.proofs.Back.{number_of, struct_back}

-- ---- one call, of a struct that a call handed back

-- where the run is over, nothing changes: a part and the end call hand the same struct back, and a part leaves the pieces
pub over_kept : (p : Parts) → Good p → p.over ≡ true → (bs : List ℕ) (s : State)
    → (handed (part_of bs (meant_by (struct_of p)) s) ≡ given (struct_of p) s) × (struct_of (end_of (meant_by (struct_of p))) ≡ struct_of p)
over_kept p g h bs s = (
  ap (λ (q : Parts). handed (part_of bs q s)) (struct_back p g) ∙ ap handed (over_part bs p s h),
  ap (λ (q : Parts). struct_of (end_of q)) (struct_back p g) ∙ ap struct_of (over_end p h),
)

-- ---- parts one after the other

-- the struct and the pieces after parts one after the other
abbrev pub runs : List (List ℕ) → Run → State → Handed
runs [] r s = given r s
runs (bs ∷ cut) r s = let h : Handed = handed (part_of bs (meant_by r) s) in runs cut h.run h.after

-- every part is of bytes
abbrev pub Bytes : List (List ℕ) → Type 0
Bytes [] = Unit {0}
Bytes (bs ∷ cut) = ((i : ℕ) → i < length bs → get_or bs i 0 < 256) × Bytes cut

-- the state stays good
pub parts_good : (cut : List (List ℕ)) (p : Parts) (s : State) → Good p → Bytes cut → Good (parts_of cut p s).run
parts_good [] p s g f = g
parts_good (bs ∷ cut) p s g f = let w : Went = part_of bs p s in parts_good cut w.run w.after (part_good bs p s g f.0) f.1

-- a good run's struct becomes that of the run that the parts come to, and the pieces become what they come to
pub runs_are : (cut : List (List ℕ)) (p : Parts) (s : State) → Good p → Bytes cut → runs cut (struct_of p) s ≡ handed (parts_of cut p s)
runs_are [] p s g f = refl
runs_are (bs ∷ cut) p s g f =
    let w : Went = part_of bs p s in
    ap (λ (q : Parts). let h : Handed = handed (part_of bs q s) in runs cut h.run h.after) (struct_back p g)
    ∙ runs_are cut w.run w.after (part_good bs p s g f.0) f.1

-- ---- a run begun, fed in parts, and ended

-- the answer, the steps and the counts of a struct are those of a run
abbrev pub Tells : Run → Parts → Type 0
Tells r p = (number r.end ≡ p.number) × (r.steps ≡ p.steps) × (r.counts ≡ p.counts)

-- so they are in the struct that a good run's end hands back
pub end_tells : (p : Parts) → Good p → Tells (struct_of (end_of p)) (end_of p)
unfolding struct_of
end_tells p g = (number_of (end_of p) (end_good p g), refl, refl)

-- of any bytes, the answer, the steps, the counts and the pieces are the definition's
pub runs_parts : (budget : ℕ) (cut : List (List ℕ)) (s : State) → Bytes cut
    → let h : Handed = runs cut (struct_of (begun budget)) s in
    let w : Went = in_parts budget cut s in
    Tells (struct_of (end_of (meant_by h.run))) w.run × (h.after ≡ w.after)
runs_parts budget cut s f =
    let p : Parts = (parts_of cut (begun budget) s).run in
    let g : Good p = parts_good cut (begun budget) s (begun_good budget) f in
    let a : runs cut (struct_of (begun budget)) s ≡ handed (parts_of cut (begun budget) s) = runs_are cut (begun budget) s (begun_good budget) f in
    let e : meant_by (runs cut (struct_of (begun budget)) s).run ≡ p = ap (λ (h : Handed). meant_by h.run) a ∙ struct_back p g in
    (subst (λ (q : Parts). Tells (struct_of (end_of q)) (end_of p)) (sym e) (end_tells p g), ap (λ (h : Handed). h.after) a)

-- ---- the bytes of a list of words

-- each is below 256
bytes_small : (ws : List ℕ) (i : ℕ) → i < length (bytes_of ws) → get_or (bytes_of ws) i 0 < 256
bytes_small [] i h = absurd (omega arith)
bytes_small (w ∷ ws) zero h = omega arith
bytes_small (w ∷ ws) (suc zero) h = omega arith
bytes_small (w ∷ ws) (suc (suc zero)) h = omega arith
bytes_small (w ∷ ws) (suc (suc (suc zero))) h = omega arith
bytes_small (w ∷ ws) (suc (suc (suc (suc i)))) h = bytes_small ws i (omega arith)

-- and so is each of a list's parts
cut_bytes : (cut : List (List ℕ)) → ((i : ℕ) → i < length (whole cut) → get_or (whole cut) i 0 < 256) → Bytes cut
cut_bytes [] f = tt
cut_bytes (bs ∷ cut) f =
    let l : length (bs ++ whole cut) ≡ length bs + length (whole cut) = length-append bs (whole cut) in (
      λ i h. rw (get_or-append bs (whole cut) 0 i h) at (f i (omega arith)),
      cut_bytes cut (λ i h. rw (get_or-append-add bs (whole cut) i 0) at (f (length bs + i) (omega arith))),
    )

-- a list's own bytes, however cut
pub list_bytes : (ws : List ℕ) (cut : List (List ℕ)) → whole cut ≡ bytes_of ws → Bytes cut
list_bytes ws cut e = cut_bytes cut (subst (λ (bs : List ℕ). (i : ℕ) → i < length bs → get_or bs i 0 < 256) (sym e) (bytes_small ws))

-- of the bytes of a list of whole triples, however cut, they are those of the list call. (That each is below 256 follows.)
pub runs_list : (budget : ℕ) (ws : List ℕ) (cut : List (List ℕ)) (s : State) → Sized s → ((i : ℕ) → i < length ws → get_or ws i 0 < 4294967296)
    → length ws % 3 ≡ 0 → whole cut ≡ bytes_of ws
    → let o : RunOutcome = run_of budget ws s in
    let h : Handed = runs cut (struct_of (begun budget)) s in
    let e : Run = struct_of (end_of (meant_by h.run)) in
    (number e.end ≡ o.number) × (e.steps ≡ o.steps) × (e.counts ≡ o.counts) × (h.after ≡ o.after)
runs_list budget ws cut s z f h e =
    let t = runs_parts budget cut s (list_bytes ws cut e) in
    subst
    (λ (w : Went).
    let h : Handed = runs cut (struct_of (begun budget)) s in
    let e : Run = struct_of (end_of (meant_by h.run)) in
    (number e.end ≡ w.run.number) × (e.steps ≡ w.run.steps) × (e.counts ≡ w.run.counts) × (h.after ≡ w.after))
    (in_parts_list budget ws cut s z f h e)
    (t.0.0, t.0.1, t.0.2, t.1)

-- of bytes that end inside a triple, they are those of the whole triples, 6 in the place of 0
pub runs_ragged : (budget : ℕ) (xs ys : List ℕ) (cut : List (List ℕ)) (s : State) → Sized s → Bytes cut → whole cut ≡ xs ++ ys → length xs % 12 ≡ 0
    → 0 < length ys → length ys < 12
    → let o : RunOutcome = run_of budget (words_of xs) s in
    let h : Handed = runs cut (struct_of (begun budget)) s in
    let e : Run = struct_of (end_of (meant_by h.run)) in
    (number e.end ≡ cond (eqb o.number 0) 6 o.number) × (e.steps ≡ o.steps) × (e.counts ≡ o.counts) × (h.after ≡ o.after)
runs_ragged budget xs ys cut s z f e h m k =
    let t = runs_parts budget cut s f in
    let r = in_parts_ragged budget xs ys cut s z e h m k in
    (t.0.0 ∙ r.0, t.0.1 ∙ r.1, t.0.2 ∙ r.2, t.1 ∙ r.3)
