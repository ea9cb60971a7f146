-- Feeding a run that is not over, as the code does it: the triple that the bytes make whole, the triples after it, and what is left.
use mathlib.Core.Path.{◌≡◌, refl, sym, ap, ap₂, subst, ◌∙◌}
use mathlib.Core.Bool.{Bool, true, false, not, cond}
use mathlib.Core.List.{List, [], ◌++◌}
use Prim.Native.Nat.{ℕ, ◌+◌, ◌-◌, ◌*◌, ◌/◌, ◌≤◌, ◌<◌}
use native.Mathlib.Omega.{arith}
use lib.Dec.{eqb}
use lib.ListN.{length, take, drop, length-append, take-append-drop}
use lib.Seq.{drop-append-add, length-take-le}
use Rattle.terms.specs.Answers.{number}
use Rattle.terms.specs.Counts.{Within}
use Rattle.terms.specs.declared.End.TheVariants as E
use Rattle.pieces.specs.State.{State}
use Rattle.machine.specs.Answers.{run_outcome}
use Rattle.machine.specs.Inner.Turns.{ran_of}
use Rattle.machine.specs.declared.Ran.{Ran}
use Rattle.model.specs.Run.{Triple, triples, run_from}
use Rattle.model.specs.Parts.{words_of, parts, went, fed}
use Rattle.model.proofs.Lists.{onward, joined_from, bounds_from, Bounds}
use Rattle.model.proofs.Bytes.{byte_triples, few_triples}
use Rattle.model.proofs.Fed.{came, drop_triple, fed_all}
use Rattle.parts.specs.Run.{twelve, struct_of, given, handed}
use Rattle.parts.specs.Inner.Feed.{Open, open_of, closing}
use Rattle.parts.specs.declared.Run.{Run}
use Rattle.parts.proofs.Twelve.{twelve_first}
use Rattle.parts.proofs.Struct.{struct, rest_of}

-- the struct after whole triples is that of where they came to
closes : (b : ℕ) (x : Ran) (s : State) (rest : List ℕ) → given (struct_of (closing b x rest)) s ≡ handed (came b (drop (length rest / 12 * 12) rest) (run_outcome x s))
closes b x s rest = go (eqb (number x.end) 0)
  where
    l : List ℕ
    l = drop (length rest / 12 * 12) rest

    go : (t : Bool) → given (struct_of (cond t (parts b false 0 x.steps x.counts l) (parts b true (number x.end) x.steps x.counts []))) s
        ≡ handed (cond t (went (parts b false 0 x.steps x.counts l) s) (went (parts b (not t) (number x.end) x.steps x.counts []) s))
    go true = refl
    go false = refl

module _ (x : Run) (o : Open x) (bs : List ℕ) (size : length (take x.count x.held) ≡ x.count) (s : State) where
  abbrev total : List ℕ
  total = take x.count x.held ++ bs

  total_length : length total ≡ x.count + length bs
  total_length = length-append (take x.count x.held) bs ∙ rw size refl

  -- what feeding comes to
  arrived_all : fed bs (open_of x) s ≡ came x.budget (drop (length total / 12 * 12) total) (run_from x.budget (triples (words_of total)) x.steps x.counts s)
  arrived_all = fed_all x.budget x.steps x.counts (take x.count x.held) s bs (rw size o.few)

  -- too few for a triple
  pub few : (l : List ℕ) → length bs < 12 - x.count → l ≡ twelve total
      → given (struct x.budget false E.Done x.steps x.counts (x.count + length bs) l) s ≡ handed (fed bs (open_of x) s)
  unfolding run_from struct_of
  few l h e =
      let m : length total < 12 = omega (arith, total_length, o.few) in
      let k : length total / 12 * 12 ≡ 0 = omega arith in
      let d : drop (length total / 12 * 12) total ≡ total = ap (λ (n : ℕ). drop n total) k in
      (λ i. given (struct x.budget false E.Done x.steps x.counts (sym total_length i) (e i)) s)
      ∙ sym (ap handed (arrived_all ∙ ap (λ (ts : List Triple). came x.budget (drop (length total / 12 * 12) total) (run_from x.budget ts x.steps x.counts s)) (few_triples total m)
      ∙ ap (λ (r : List ℕ). went (parts x.budget false 0 x.steps x.counts r) s) d))

  -- the twelve bytes of the first triple, and those behind it
  module _ (first rest : List ℕ) (h : 12 - x.count ≤ length bs) (e : first ≡ twelve total)
      (f : rest ≡ take (length bs - (12 - x.count)) (drop (12 - x.count) bs)) where
    long : 12 ≤ length total
    long = omega (arith, total_length, o.few, h)

    first_is : first ≡ take 12 total
    first_is = e ∙ twelve_first total long

    first_length : length first ≡ 12
    first_length = ap length first_is ∙ length-take-le 12 total long

    rest_is : rest ≡ drop 12 total
    rest_is =
        let k : length (take x.count x.held) + (12 - x.count) ≡ 12 = omega (arith, size, o.few) in
        f ∙ rest_of bs (12 - x.count) ∙ sym (drop-append-add (take x.count x.held) bs (12 - x.count)) ∙ ap (λ (n : ℕ). drop n total) k

    joined : first ++ rest ≡ total
    joined = ap₂ (λ (y z : List ℕ). y ++ z) first_is rest_is ∙ take-append-drop 12 total

    abbrev from : Ran
    from = ran_of E.Done x.steps x.counts

    module _ (one : Ran) (t : State) (g : run_outcome one t ≡ onward x.budget (triples (words_of first)) (run_outcome from s)) where
      within_first : Bounds x.budget x.steps (length (triples (words_of first))) (run_outcome one t)
      within_first = subst (Bounds x.budget x.steps (length (triples (words_of first)))) (sym g) (bounds_from x.budget (triples (words_of first)) x.steps x.counts s o.budgeted o.counted)

      pub first_budgeted : one.steps ≤ x.budget
      first_budgeted = within_first.budgeted

      pub first_counted : Within one.steps one.counts
      first_counted = within_first.counted

      pub many : (all : Ran) (u : State) → run_outcome all u ≡ onward x.budget (triples (words_of rest)) (run_outcome one t)
          → (y : Run) → y ≡ struct_of (closing x.budget all rest) → given y u ≡ handed (fed bs (open_of x) s)
      many all u k y q =
          let b : ℕ = x.budget in
          let done : run_outcome all u ≡ run_from b (triples (words_of total)) x.steps x.counts s =
          k ∙ ap (onward b (triples (words_of rest))) g
          ∙ sym (joined_from b (triples (words_of first)) (triples (words_of rest)) x.steps x.counts s)
          ∙ ap (λ (ts : List Triple). run_from b ts x.steps x.counts s)
          (sym (byte_triples first rest (rw first_length refl)) ∙ ap (λ (l : List ℕ). triples (words_of l)) joined) in
          let tail : drop (length rest / 12 * 12) rest ≡ drop (length total / 12 * 12) total =
          sym (drop_triple first rest first_length) ∙ ap (λ (l : List ℕ). drop (length l / 12 * 12) l) joined in
          ap (λ (r : Run). given r u) q
          ∙ closes b all u rest
          ∙ ap handed (ap₂ (came b) tail done ∙ sym arrived_all)
