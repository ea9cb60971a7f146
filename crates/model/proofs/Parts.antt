-- A list that arrives in parts comes to what the list call comes to: from one law, that a part of joined bytes is two parts.
use mathlib.Core.Path.{◌≡◌, refl, sym, ap, ◌∙◌, subst}
use Prim.Native.Nat.{ℕ, ◌*◌, ◌/◌, ◌%◌, ◌<◌}
use native.Mathlib.Omega.{arith}
use mathlib.Core.Bool.{Bool, true, false, cond}
use mathlib.Core.List.{List, [], ◌∷◌, ◌++◌, append-nil}
use borrow.Author.Tests.{eqb-true, eq-eqb, ne_eqb}
use lib.Dec.{eqb, ltb}
use lib.ListN.{length, get_or, length-append}
use lib.Seq.{drop-append_seam, drop-length}
use Rattle.terms.specs.Counts.{none}
use Rattle.pieces.specs.State.{State, Sized, sized_of}
use Rattle.pieces.proofs.Right.{sized_if, sized_only, clash}
use Rattle.model.specs.Run.{triples, RunOutcome, run_from, run_of}
use Rattle.model.specs.Parts.{words_of, bytes_of, Parts, parts, Went, went, begun, kept, met, taken, fed, part_of, end_of, parts_of, whole, in_parts}
use Rattle.model.proofs.Lengths.{sized_from}
use Rattle.model.proofs.Bytes.{length_words, length_bytes, words_bytes, byte_triples, few_triples}
use Rattle.model.proofs.Fed.{fed_over, came, arrived, fed_all}

-- ---- one call of each

-- a part changes nothing where the run is over
pub over_part : (bs : List ℕ) (p : Parts) (s : State) → p.over ≡ true → part_of bs p s ≡ went p s
unfolding part_of
over_part bs p s h = rw h

-- nor does the end call
pub over_end : (p : Parts) → p.over ≡ true → end_of p ≡ p
unfolding end_of
over_end p h = rw h

-- after the end call the run is over
pub ended_over : (p : Parts) → (end_of p).over ≡ true
unfolding end_of
ended_over p = go p.over refl
  where
    go : (x : Bool) → p.over ≡ x → (cond x p (kept (cond (eqb (length p.left) 0) 0 6) p)).over ≡ true
    go true e = e
    go false e = refl

-- on pieces of other lengths a part is refused with 5
pub part_five : (bs : List ℕ) (p : Parts) (s : State) → p.over ≡ false → (Sized s → ⊥) → part_of bs p s ≡ went (kept 5 p) s
unfolding part_of
part_five bs p s h z = go p.over (sized_of s) h (sized_if s)
  where
    go : (x y : Bool) → x ≡ false → (y ≡ true → Sized s) → cond x (went p s) (cond y (fed bs p s) (went (kept 5 p) s)) ≡ went (kept 5 p) s
    go true y e f = absurd (clash (sym e))
    go false true e f = absurd (z (f refl))
    go false false e f = refl

-- on pieces of right lengths it is fed
pub part_fed : (bs : List ℕ) (p : Parts) (s : State) → Sized s → part_of bs p s ≡ fed bs p s
unfolding part_of
part_fed bs p s z = rw (sized_only s z) (go p.over refl)
  where
    go : (x : Bool) → p.over ≡ x → cond x (went p s) (fed bs p s) ≡ fed bs p s
    go true e = sym (fed_over bs p s e)
    go false e = refl

-- ---- right lengths stay right

sized_taken : (b : ℕ) (p : Parts) (s : State) → Sized s → Sized (taken b p s).after
unfolding taken
sized_taken b p s z = go (ltb (length (p.left ++ (b ∷ []))) 12)
  where
    go : (x : Bool)
        → Sized
        (cond x (went (parts p.budget p.over p.number p.steps p.counts (p.left ++ (b ∷ []))) s)
        (met p.budget (run_from p.budget (triples (words_of (p.left ++ (b ∷ [])))) p.steps p.counts s))).after
    go true = z
    go false = sized_from p.budget (triples (words_of (p.left ++ (b ∷ [])))) p.steps p.counts s z

-- feeding keeps them
pub sized_fed : (bs : List ℕ) (p : Parts) (s : State) → Sized s → Sized (fed bs p s).after
unfolding fed
sized_fed [] p s z = z
sized_fed (b ∷ bs) p s z =
    let w : Went = taken b p s in go p.over (fed bs w.run w.after) (sized_fed bs w.run w.after (sized_taken b p s z))
  where
    go : (x : Bool) (w : Went) → Sized w.after → Sized (cond x (went p s) w).after
    go true w h = z
    go false w h = h

-- and so does a part
pub sized_part : (bs : List ℕ) (p : Parts) (s : State) → Sized s → Sized (part_of bs p s).after
sized_part bs p s z = rw (part_fed bs p s z) (sized_fed bs p s z)

-- ---- joined parts

-- joined bytes are fed one list after the other
pub fed_join : (xs ys : List ℕ) (p : Parts) (s : State) → fed (xs ++ ys) p s ≡ (let w : Went = fed xs p s in fed ys w.run w.after)
unfolding fed
fed_join [] ys p s = refl
fed_join (x ∷ xs) ys p s =
    let w : Went = taken x p s in go p.over refl (fed (xs ++ ys) w.run w.after) (fed xs w.run w.after) (fed_join xs ys w.run w.after)
  where
    go : (o : Bool) → p.over ≡ o → (u v : Went) → u ≡ fed ys v.run v.after
        → cond o (went p s) u ≡ fed ys (cond o (went p s) v).run (cond o (went p s) v).after
    go true e u v h = sym (fed_over ys p s e)
    go false e u v h = h

-- a part of joined bytes is the two parts one after the other
pub part_join : (xs ys : List ℕ) (p : Parts) (s : State) → part_of (xs ++ ys) p s ≡ (let w : Went = part_of xs p s in part_of ys w.run w.after)
part_join xs ys p s = go p.over (sized_of s) refl (sized_if s) (λ h. sized_only s h)
  where
    go : (x y : Bool) → p.over ≡ x → (y ≡ true → Sized s) → (Sized s → y ≡ true)
        → part_of (xs ++ ys) p s ≡ (let w : Went = part_of xs p s in part_of ys w.run w.after)
    go true y e f g = rw (over_part (xs ++ ys) p s e, over_part xs p s e) (sym (over_part ys p s e))
    go false true e f g =
        let z : Sized s = f refl in
        rw (part_fed (xs ++ ys) p s z, part_fed xs p s z)
        (fed_join xs ys p s ∙ sym (part_fed ys (fed xs p s).run (fed xs p s).after (sized_fed xs p s z)))
    go false false e f g =
        let z : Sized s → ⊥ = λ h. clash (g h) in
        rw (part_five (xs ++ ys) p s e z, part_five xs p s e z) (sym (over_part ys (kept 5 p) s refl))

-- a cut list's parts come to one part of all its bytes
pub cut_whole : (cut : List (List ℕ)) (p : Parts) (s : State) → Sized s → parts_of cut p s ≡ part_of (whole cut) p s
unfolding fed
cut_whole [] p s z = sym (part_fed [] p s z)
cut_whole (bs ∷ cut) p s z =
    let w : Went = part_of bs p s in cut_whole cut w.run w.after (sized_part bs p s z) ∙ sym (part_join bs (whole cut) p s)

-- ---- a run begun, fed in parts, and ended

-- what the end call makes of a run that came so far
finished : (b : ℕ) (l : List ℕ) (o : RunOutcome)
    → let w : Went = came b l o in
    went (end_of w.run) w.after
    ≡ cond (eqb o.number 0) (went (parts b true (cond (eqb (length l) 0) 0 6) o.steps o.counts l) o.after) (met b o)
unfolding end_of
finished b l o = go (eqb o.number 0) refl
  where
    go : (x : Bool) → eqb o.number 0 ≡ x
        → let w : Went = came b l o in
        went (end_of w.run) w.after
        ≡ cond (eqb o.number 0) (went (parts b true (cond (eqb (length l) 0) 0 6) o.steps o.counts l) o.after) (met b o)
    go true e = rw e
    go false e = rw e

-- however it is cut, the end finds what its bytes come to when all of them are fed at once
cut_fed : (budget : ℕ) (cut : List (List ℕ)) (s : State) → Sized s → parts_of cut (begun budget) s ≡ arrived budget (whole cut) 0 none [] s
cut_fed budget cut s z =
    cut_whole cut (begun budget) s z ∙ part_fed (whole cut) (begun budget) s z ∙ fed_all budget 0 none [] s (whole cut) (omega arith)

-- a list call on pieces of right lengths, of whole triples
run_bytes : (budget : ℕ) (bs : List ℕ) (s : State) → Sized s → length bs % 12 ≡ 0
    → run_of budget (words_of bs) s ≡ run_from budget (triples (words_of bs)) 0 none s
unfolding run_of
run_bytes budget bs s z h =
    let e : length (words_of bs) ≡ length bs / 4 = length_words bs in
    let f : length (words_of bs) % 3 ≡ 0 = rw e (omega arith) in
    rw (sized_only s z, eq-eqb (length (words_of bs) % 3) 0 f)

-- bytes that make whole triples, however cut: the answer, the steps, the counts and the pieces are those of the list call
pub in_parts_lem : (budget : ℕ) (cut : List (List ℕ)) (s : State) → Sized s → length (whole cut) % 12 ≡ 0
    → let o : RunOutcome = run_of budget (words_of (whole cut)) s in
    in_parts budget cut s ≡ went (parts budget true o.number o.steps o.counts []) o.after
in_parts_lem budget cut s z h =
    let bs : List ℕ = whole cut in
    let e : length bs / 12 * 12 ≡ length bs = omega arith in
    let o : RunOutcome = run_from budget (triples (words_of bs)) 0 none s in
    rw (cut_fed budget cut s z, run_bytes budget bs s z h, e, drop-length bs) (finished budget [] o ∙ go o (eqb o.number 0) refl)
  where
    go : (o : RunOutcome) (x : Bool) → eqb o.number 0 ≡ x
        → cond (eqb o.number 0) (went (parts budget true 0 o.steps o.counts []) o.after) (met budget o)
        ≡ went (parts budget true o.number o.steps o.counts []) o.after
    go o true e = rw (e, eqb-true o.number 0 e)
    go o false e = rw e

-- the same of the bytes of a list of words
pub in_parts_list : (budget : ℕ) (ws : List ℕ) (cut : List (List ℕ)) (s : State) → Sized s
    → ((i : ℕ) → i < length ws → get_or ws i 0 < 4294967296) → length ws % 3 ≡ 0 → whole cut ≡ bytes_of ws
    → let o : RunOutcome = run_of budget ws s in in_parts budget cut s ≡ went (parts budget true o.number o.steps o.counts []) o.after
in_parts_list budget ws cut s z f h e =
    let l : length (whole cut) ≡ length ws * 4 = ap length e ∙ length_bytes ws in
    let g : words_of (whole cut) ≡ ws = ap words_of e ∙ words_bytes ws f in
    rw g at (in_parts_lem budget cut s z (omega arith))

-- what the end call leaves of a run that came to o before bytes that make no triple: 6 where the triples are done; the steps stand, and so do these bytes
abbrev pub Ragged : RunOutcome → List ℕ → Went → Type 0
Ragged o l w =
    (w.run.number ≡ cond (eqb o.number 0) 6 o.number) × (w.run.steps ≡ o.steps) × (w.run.counts ≡ o.counts) × (w.after ≡ o.after)
    × (w.run.over ≡ true) × (w.run.left ≡ cond (eqb o.number 0) l [])

ragged_end : (b : ℕ) (l : List ℕ) (o : RunOutcome) → 0 < length l
    → Ragged o l (cond (eqb o.number 0) (went (parts b true (cond (eqb (length l) 0) 0 6) o.steps o.counts l) o.after) (met b o))
ragged_end b l o h = go (eqb o.number 0) refl
  where
    go : (x : Bool) → eqb o.number 0 ≡ x
        → Ragged o l (cond (eqb o.number 0) (went (parts b true (cond (eqb (length l) 0) 0 6) o.steps o.counts l) o.after) (met b o))
    go true e = rw (e, ne_eqb (length l) 0 (λ (g : length l ≡ 0). omega arith)) (refl, refl, refl, refl, refl, refl)
    go false e = rw e (refl, refl, refl, refl, refl, refl)

-- bytes behind the whole triples that make no triple
pub in_parts_ragged : (budget : ℕ) (xs ys : List ℕ) (cut : List (List ℕ)) (s : State) → Sized s → whole cut ≡ xs ++ ys → length xs % 12 ≡ 0
    → 0 < length ys → length ys < 12 → Ragged (run_of budget (words_of xs) s) ys (in_parts budget cut s)
in_parts_ragged budget xs ys cut s z e h m f =
    let l : length (xs ++ ys) / 12 * 12 ≡ length xs = simp length-append (omega arith) in
    let o : RunOutcome = run_from budget (triples (words_of xs)) 0 none s in
    let t : triples (words_of (xs ++ ys)) ≡ triples (words_of xs) = byte_triples xs ys h ∙ rw (few_triples ys f) (append-nil (triples (words_of xs))) in
    let w : Went = came budget ys o in
    let v : in_parts budget cut s ≡ went (end_of w.run) w.after = rw (cut_fed budget cut s z, e, t, l, drop-append_seam xs ys) in
    subst (λ (r : RunOutcome). Ragged r ys (in_parts budget cut s)) (sym (run_bytes budget xs s z h))
    (subst (λ (u : Went). Ragged o ys u) (sym (v ∙ finished budget ys o)) (ragged_end budget ys o m))
