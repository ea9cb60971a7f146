-- The struct of a state: of one that is read, that is over, that is left after whole triples.
use mathlib.Core.Path.{◌≡◌, refl, sym, ap, ◌∙◌}
use mathlib.Core.Bool.{Bool, true, false, not, cond, ◌&&◌, true≢false}
use mathlib.Core.List.{List, [], ◌++◌, append-nil}
use Prim.Native.Nat.{ℕ, zero-le, ◌-◌, ◌*◌, ◌/◌, ◌%◌, ◌≤◌, ◌<◌}
use native.Mathlib.Omega.{arith}
use borrow.Author.Tests.{leb-true, ltb-true, not-true, not-false}
use lib.Dec.{eqb, leb, ltb}
use lib.ListN.{length, length-take, take, drop, length-drop}
use lib.Seq.{take_all}
use Rattle.terms.specs.Answers.{number, numbered}
use Rattle.terms.specs.Counts.{none, Within, within_of}
use Rattle.terms.specs.declared.Counts.{Counts}
use Rattle.terms.specs.declared.End.{End}
use Rattle.terms.specs.declared.End.TheVariants as E
use Rattle.terms.proofs.Inverse.{back}
use Rattle.terms.proofs.Sums.{within_none, within_if, and_true}
use Rattle.machine.specs.declared.Ran.{Ran}
use Rattle.model.specs.Parts.{Parts, parts, begun, kept, end_of}
use Rattle.parts.specs.Run.{answer_of, sound, meant_by, twelve, struct_of}
use Rattle.parts.specs.Inner.Feed.{going_by, kept_by, closing}
use Rattle.parts.specs.declared.Run.{Run}

abbrev pub struct : ℕ → Bool → End → ℕ → Counts → ℕ → List ℕ → Run
struct b o e n c k h = record { budget = b; over = o; end = e; steps = n; counts = c; count = k; held = h }

-- ---- read

-- what is out of bounds
pub spoilt : (x : Run) → sound x ≡ false → kept_by E.Lengths (struct_of (begun 0)) ≡ struct_of (meant_by x)
unfolding struct_of meant_by
spoilt x e = rw e refl

-- fewer bytes are left over than twelve
pub sound_few : (x : Run) → sound x ≡ true → x.count < 12
sound_few x e =
    let a = and_true (leb x.steps x.budget && within_of x.steps x.counts && ltb x.count 12) (leb (answer_of x) 7) e in
    ltb-true x.count 12 (and_true (leb x.steps x.budget && within_of x.steps x.counts) (ltb x.count 12) a.0).1

-- what holds of every run that a struct stands for
pub record Fit (p : Parts) : Type 0 where
  pub budgeted : p.steps ≤ p.budget
  pub counted : Within p.steps p.counts
  pub few : length p.left < 12
  pub answered : p.number ≤ 7
  pub well : p.over ≡ false → p.number ≡ 0

pub meant_fit : (r : Run) → Fit (meant_by r)
unfolding meant_by
meant_fit r = go (sound r) refl
  where
    well_of : (t : Bool) (n : ℕ) → t ≡ false → cond t n 0 ≡ 0
    well_of true n e = absurd (true≢false e)
    well_of false n e = refl

    go : (t : Bool) → sound r ≡ t
        → Fit (cond t (parts r.budget r.over (answer_of r) r.steps r.counts (take r.count r.held)) (parts 0 true (number E.Lengths) 0 none []))
    go true e =
        let d = and_true (leb r.steps r.budget && within_of r.steps r.counts && ltb r.count 12) (leb (answer_of r) 7) e in
        let a = and_true (leb r.steps r.budget && within_of r.steps r.counts) (ltb r.count 12) d.0 in
        let b = and_true (leb r.steps r.budget) (within_of r.steps r.counts) a.0 in
        record {
          budgeted = leb-true r.steps r.budget b.0;
          counted = within_if r.steps r.counts b.1;
          few = omega (arith, length-take r.count r.held, sound_few r e);
          answered = leb-true (answer_of r) 7 d.1;
          well = well_of r.over (number r.end);
        }
    go false e = record { budgeted = zero-le; counted = within_none 0; few = omega arith; answered = omega arith; well = λ z. absurd (true≢false z) }

-- the answer that is given
given_end : (o : Bool) (e : End) → cond o e E.Done ≡ numbered (cond o (number e) 0)
given_end true e = sym (back e)
given_end false e = refl

-- what is within bounds, as it is handed back
module _ (x : Run) (t : sound x ≡ true) where
  tidy : (e : End) (l : List ℕ) → e ≡ cond x.over x.end E.Done
      → (l ≡ twelve (take x.count x.held ++ [])) × (length (take x.count x.held) ≡ x.count)
      → struct x.budget x.over e x.steps x.counts x.count l ≡ struct_of (meant_by x)
  unfolding struct_of meant_by
  tidy e l p q =
      let g : e ≡ numbered (cond x.over (number x.end) 0) = p ∙ given_end x.over x.end in
      let m : l ≡ twelve (take x.count x.held) = q.0 ∙ ap twelve (append-nil (take x.count x.held)) in
      rw t (λ i. struct x.budget x.over (g i) x.steps x.counts (sym q.1 i) (m i))

  -- it is over, or not
  module _ (l : List ℕ) (q : (l ≡ twelve (take x.count x.held ++ [])) × (length (take x.count x.held) ≡ x.count)) where
    told : (o : Bool) → x.over ≡ o → struct x.budget o (cond o x.end E.Done) x.steps x.counts x.count l ≡ struct_of (meant_by x)
    told o h = ap (λ (b : Bool). struct x.budget b (cond b x.end E.Done) x.steps x.counts x.count l) (sym h) ∙ tidy (cond x.over x.end E.Done) l refl q

  pub tidy_over : x.over ≡ true → (l : List ℕ) → (l ≡ twelve (take x.count x.held ++ [])) × (length (take x.count x.held) ≡ x.count)
      → kept_by x.end (going_by x.budget x.steps x.counts x.count l) ≡ struct_of (meant_by x)
  tidy_over h l q = told l q true h

  pub tidy_going : x.over ≡ false → (l : List ℕ) → (l ≡ twelve (take x.count x.held ++ [])) × (length (take x.count x.held) ≡ x.count)
      → going_by x.budget x.steps x.counts x.count l ≡ struct_of (meant_by x)
  tidy_going h l q = told l q false h

-- ---- over

-- of a struct that is a state's
module _ {x : Run} (p : Parts) (e : x ≡ struct_of p) where
  pub over_of : p.over ≡ x.over
  unfolding struct_of
  over_of = sym (ap (λ (r : Run). r.over) e)

  pub count_of_lem : cond (eqb x.count 0) E.Done E.Ragged ≡ cond (eqb (length p.left) 0) E.Done E.Ragged
  unfolding struct_of
  count_of_lem = ap (λ (r : Run). cond (eqb r.count 0) E.Done E.Ragged) e

-- the struct of a run that is over with an answer
pub kept_struct : (e : End) (p : Parts) → kept_by e (struct_of p) ≡ struct_of (kept (number e) p)
unfolding struct_of
kept_struct e p = λ i. struct p.budget true (sym (back e) i) p.steps p.counts (length p.left) (twelve p.left)

-- the end of a run that is not over
end_open : (p : Parts) → p.over ≡ false → end_of p ≡ kept (cond (eqb (length p.left) 0) (number E.Done) (number E.Ragged)) p
unfolding end_of
end_open p = go p.over
  where
    q : Parts
    q = kept (cond (eqb (length p.left) 0) (number E.Done) (number E.Ragged)) p

    go : (t : Bool) → t ≡ false → cond t p q ≡ q
    go true e = absurd (true≢false e)
    go false e = refl

pub end_struct : (p : Parts) (e : End) → p.over ≡ false → e ≡ cond (eqb (length p.left) 0) E.Done E.Ragged → kept_by e (struct_of p) ≡ struct_of (end_of p)
end_struct p e h q =
    kept_struct e p ∙ ap struct_of (ap (λ (d : End). kept (number d) p) q ∙ sides (eqb (length p.left) 0) ∙ sym (end_open p h))
  where
    sides : (t : Bool) → kept (number (cond t E.Done E.Ragged)) p ≡ kept (cond t (number E.Done) (number E.Ragged)) p
    sides true = refl
    sides false = refl

-- ---- left

-- a part of a slice up to its end
pub rest_of : (l : List ℕ) (n : ℕ) → take (length l - n) (drop n l) ≡ drop n l
rest_of l n = take_all (length l - n) (drop n l) (simp length-drop (omega arith))

module _ (b : ℕ) (x : Ran) (rest : List ℕ) where
  -- where the triples stopped
  pub closed : not (eqb (number x.end) 0) ≡ true → struct b true x.end x.steps x.counts 0 (twelve []) ≡ struct_of (closing b x rest)
  unfolding struct_of
  closed e = rw (not-true (eqb (number x.end) 0) e) (λ i. struct b true (sym (back x.end) i) x.steps x.counts 0 (twelve []))

  -- where all of them are done
  pub carried : (l : List ℕ) → not (eqb (number x.end) 0) ≡ false
      → l ≡ twelve (take (length rest - (length rest - length rest % 12)) (drop (length rest - length rest % 12) rest))
      → struct b false E.Done x.steps x.counts (length rest % 12) l ≡ struct_of (closing b x rest)
  unfolding struct_of
  carried l e q =
      let m : length rest - length rest % 12 ≡ length rest / 12 * 12 = omega arith in
      let k : length rest % 12 ≡ length (drop (length rest / 12 * 12) rest) = simp length-drop (omega arith) in
      rw (not-false (eqb (number x.end) 0) e)
      (λ i. struct b false E.Done x.steps x.counts (k i) ((q ∙ ap twelve (rest_of rest (length rest - length rest % 12)) ∙ ap (λ (n : ℕ). twelve (drop n rest)) m) i))
