-- What a call leaves is read as it was left: the struct, and its sixteen words.
use mathlib.Core.Path.{◌≡◌, refl, sym, ap, ◌∙◌}
use mathlib.Core.Bool.{Bool, true, false, not, cond}
use mathlib.Core.List.{List, [], ◌∷◌, ◌++◌}
use Prim.Native.Nat.{ℕ, ◌+◌, ◌*◌, ◌/◌, ◌%◌, ◌≤◌, ◌<◌}
use native.Mathlib.Omega.{arith}
use borrow.Author.Tests.{le-leb, lt-ltb, ltb-true, ltb-false}
use lib.Dec.{eqb, leb, ltb}
use lib.ListN.{length, get_or, take, length-take, get_or-eq_default}
use lib.Seq.{get_or-take}
use Rattle.terms.specs.Answers.{number, numbered}
use Rattle.terms.specs.Counts.{counts, none}
use Rattle.terms.specs.declared.End.TheVariants as E
use Rattle.terms.proofs.Inverse.{back, number_back}
use Rattle.terms.proofs.Sums.{within_only}
use Rattle.model.specs.Address.{joined, split}
use Rattle.model.specs.Parts.{Parts, parts}
use Rattle.model.proofs.Kept.{Good}
use Rattle.parts.specs.Run.{answer_of, sound, meant_by, struct_of}
use Rattle.parts.specs.Words.{worded, unworded}
use Rattle.parts.specs.declared.Run.{Run}
use Rattle.parts.proofs.Twelve.{take_twelve}
use Rattle.parts.proofs.Struct.{struct, meant_fit}

-- ---- the struct

-- the number in the struct of a good run
pub number_of : (p : Parts) → Good p → number (struct_of p).end ≡ p.number
unfolding struct_of
number_of p g = number_back p.number (omega (arith, g.answered))

-- the answer in it
answer_of_lem : (p : Parts) → Good p → answer_of (struct_of p) ≡ p.number
unfolding struct_of
answer_of_lem p g = go p.over g.well
  where
    go : (o : Bool) → (o ≡ false → p.number ≡ 0) → cond o (number (numbered p.number)) 0 ≡ p.number
    go true h = number_back p.number (omega (arith, g.answered))
    go false h = sym (h refl)

-- the struct of a good run is within bounds
good_sound : (p : Parts) → Good p → sound (struct_of p) ≡ true
unfolding struct_of
good_sound p g =
    let a : leb (cond p.over (number (numbered p.number)) 0) 7 ≡ true = le-leb (cond p.over (number (numbered p.number)) 0) 7 (rw (answer_of_lem p g) g.answered) in
    rw (le-leb p.steps p.budget g.budgeted, within_only p.steps p.counts g.counted, lt-ltb (length p.left) 12 g.few, a) refl

-- a good run's struct stands for it
pub struct_back : (p : Parts) → Good p → meant_by (struct_of p) ≡ p
unfolding meant_by struct_of
struct_back p g =
    rw (good_sound p g) (λ i. parts p.budget p.over (answer_of_lem p g i) p.steps p.counts (take_twelve p.left g.few i))

-- whatever a struct holds, the run that it stands for is a good one
pub meant_good : (r : Run) → ((i : ℕ) → i < length r.held → get_or r.held i 0 < 256) → Good (meant_by r)
unfolding meant_by
meant_good r h =
    let f = meant_fit r in
    record { budgeted = f.budgeted; counted = f.counted; few = f.few; answered = f.answered; well = f.well; bytes = go (sound r) }
  where
    go : (t : Bool)
        → let p : Parts = cond t (parts r.budget r.over (answer_of r) r.steps r.counts (take r.count r.held)) (parts 0 true (number E.Lengths) 0 none []) in
        (i : ℕ) → i < length p.left → get_or p.left i 0 < 256
    go true i u =
        let l = length-take r.count r.held in
        rw (get_or-take r.count r.held i 0 (omega (arith, l))) (h i (omega (arith, l)))
    go false i u = absurd (omega arith)

-- ---- the words

-- a byte off the low end
low : (x y : ℕ) → x < 256 → (x + y * 256) % 256 ≡ x
low x y h = omega arith

high : (x y : ℕ) → x < 256 → (x + y * 256) / 256 ≡ y
high x y h = omega arith

-- four bytes are taken apart again
split_joined : (a b c d : ℕ) → a < 256 → b < 256 → c < 256 → d < 256 → split (joined (a ∷ b ∷ c ∷ d ∷ [])) ≡ a ∷ b ∷ c ∷ d ∷ []
split_joined a b c d e f g h =
    let z : ℕ = joined (d ∷ []) in
    let y : ℕ = joined (c ∷ d ∷ []) in
    let x : ℕ = joined (b ∷ c ∷ d ∷ []) in
    let w : ℕ = joined (a ∷ b ∷ c ∷ d ∷ []) in
    let p : w / 256 ≡ x = high a x e in
    let q : w / 65536 ≡ y = two w ∙ ap (λ (n : ℕ). n / 256) p ∙ high b y f in
    let r : w / 16777216 ≡ z = three w ∙ ap (λ (n : ℕ). n / 256) q ∙ high c z g in
    λ i. low a x e i ∷ (ap (λ (n : ℕ). n % 256) p ∙ low b y f) i ∷ (ap (λ (n : ℕ). n % 256) q ∙ low c z g) i ∷ (ap (λ (n : ℕ). n % 256) r ∙ low d 0 h) i ∷ []
  where
    two : (w : ℕ) → w / 65536 ≡ w / 256 / 256
    two w = omega arith

    three : (w : ℕ) → w / 16777216 ≡ w / 65536 / 256
    three w = omega arith

-- what stands in a list of bytes, or behind it
byte_at : (l : List ℕ) → ((i : ℕ) → i < length l → get_or l i 0 < 256) → (i : ℕ) → get_or l i 0 < 256
byte_at l f i = go (ltb i (length l)) (ltb-true i (length l)) (ltb-false i (length l))
  where
    go : (t : Bool) → (t ≡ true → i < length l) → (t ≡ false → length l ≤ i) → get_or l i 0 < 256
    go true h k = f i (h refl)
    go false h k = rw (get_or-eq_default l 0 (k refl)) (omega arith)

-- the words of a good run's struct are read as that struct
pub words_back : (p : Parts) → Good p → unworded (worded (struct_of p)) ≡ struct_of p
unfolding worded unworded struct_of
words_back p g =
    let l : List ℕ = p.left in
    let at : (i : ℕ) → get_or l i 0 < 256 = byte_at l g.bytes in
    let four : (i j k m : ℕ) → split (joined (get_or l i 0 ∷ get_or l j 0 ∷ get_or l k 0 ∷ get_or l m 0 ∷ [])) ≡ get_or l i 0 ∷ get_or l j 0 ∷ get_or l k 0 ∷ get_or l m 0 ∷ [] =
    λ i j k m. split_joined (get_or l i 0) (get_or l j 0) (get_or l k 0) (get_or l m 0) (at i) (at j) (at k) (at m) in
    λ i.
    struct p.budget (over p.over i) (back (numbered p.number) i) p.steps (counts (halves p.counts.accesses i) (halves p.counts.clipped i)) (length l)
    (four 0 1 2 3 i ++ four 4 5 6 7 i ++ four 8 9 10 11 i)
  where
    over : (o : Bool) → not (eqb (cond o 1 0) 0) ≡ o
    over true = refl
    over false = refl

    halves : (n : ℕ) → n % 4294967296 + n / 4294967296 * 4294967296 ≡ n
    halves n = omega arith

-- and so they stand for the run
pub kept_back : (p : Parts) → Good p → meant_by (unworded (worded (struct_of p))) ≡ p
kept_back p g = ap meant_by (words_back p g) ∙ struct_back p g

-- there are sixteen
pub length_worded : (r : Run) → length (worded r) ≡ 16
unfolding worded
length_worded r = refl
