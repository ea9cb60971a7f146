-- What feeding bytes to a run comes to: a run of the whole triples, from where it stands.
use mathlib.Core.Path.{◌≡◌, refl, ◌∙◌}
use Prim.Native.Nat.{ℕ, ◌+◌, ◌-◌, ◌*◌, ◌/◌, ◌≤◌, ◌<◌}
use native.Mathlib.Omega.{arith}
use mathlib.Core.Bool.{Bool, true, false, cond}
use mathlib.Core.List.{List, [], ◌∷◌, ◌++◌, append-nil}
use borrow.Author.Tests.{eqb-true, eqb-false, eq-eqb, ne_eqb, ltb-true, ltb-false, lt-ltb, le-ltb}
use lib.Dec.{eqb, ltb}
use lib.ListN.{length, drop, length-append}
use lib.Seq.{append_snoc, drop-append-add}
use Rattle.terms.specs.Counts.{none, plus}
use Rattle.terms.specs.declared.Counts.{Counts}
use Rattle.terms.proofs.Sums.{plus_none, plus_assoc}
use Rattle.pieces.specs.State.{State}
use Rattle.model.specs.Step.{Outcome, triple_of}
use Rattle.model.specs.Run.{Triple, triples, RunOutcome, ended, run_from}
use Rattle.model.specs.Parts.{words_of, Parts, parts, Went, went, met, taken, fed}
use Rattle.model.proofs.Lists.{onward, joined_from}
use Rattle.model.proofs.Bytes.{byte_triples, few_triples}

-- ---- a run that has done n steps

-- a run's outcome with n steps before it, which counted c
abbrev pub added : ℕ → Counts → RunOutcome → RunOutcome
added n c o = ended o.number (n + o.steps) (plus c o.counts) o.after

-- n more on both sides change no test
eqb_add : (n m k : ℕ) → eqb (n + m) (n + k) ≡ eqb m k
eqb_add n m k = go (eqb m k) (eqb-true m k) (eqb-false m k)
  where
    go : (x : Bool) → (x ≡ true → m ≡ k) → (x ≡ false → m ≡ k → ⊥) → eqb (n + m) (n + k) ≡ x
    go true f g = eq-eqb (n + m) (n + k) (let e : m ≡ k = f refl in omega arith)
    go false f g = ne_eqb (n + m) (n + k) (λ (e : n + m ≡ n + k). g refl (omega arith))

-- one turn with and without them
added_turn : (n m : ℕ) (c d : Counts) (s : State) (o : Outcome) (v w : RunOutcome) (x y : Bool) → v ≡ added n c w
    → cond x (ended 7 (n + m) (plus c d) s) (cond y v (ended o.number (n + m) (plus c d) o.after))
    ≡ added n c (cond x (ended 7 m d s) (cond y w (ended o.number m d o.after)))
added_turn n m c d s o v w true y h = refl
added_turn n m c d s o v w false true h = h
added_turn n m c d s o v w false false h = refl

-- n steps more under a budget of n more
later : (n k : ℕ) (c : Counts) (ts : List Triple) (m : ℕ) (d : Counts) (s : State)
    → run_from (n + k) ts (n + m) (plus c d) s ≡ added n c (run_from k ts m d s)
unfolding run_from
later n k c [] m d s = refl
later n k c (t ∷ ts) m d s =
    let o : Outcome = triple_of t.word t.side t.mask s in
    let e : n + m + 1 ≡ n + (m + 1) = omega arith in
    rw (eqb_add n m k, e, plus_assoc c d o.counts)
    (added_turn n m c d s o (run_from (n + k) ts (n + (m + 1)) (plus c (plus d o.counts)) o.after) (run_from k ts (m + 1) (plus d o.counts) o.after)
    (eqb m k) (eqb o.number 0) (later n k c ts (m + 1) (plus d o.counts) o.after))

-- a run that has done n steps does what a new one does under the rest of the budget
pub shifted : (budget : ℕ) (ts : List Triple) (n : ℕ) (c : Counts) (s : State) → n ≤ budget
    → run_from budget ts n c s ≡ added n c (run_from (budget - n) ts 0 none s)
shifted budget ts n c s h =
    let e : n + (budget - n) ≡ budget = omega arith in
    let f : n + 0 ≡ n = omega arith in
    rw (e, f, plus_none c) at (later n (budget - n) c ts 0 none s)

-- ---- what feeding comes to

-- a run that is over takes nothing up
pub fed_over : (bs : List ℕ) (p : Parts) (s : State) → p.over ≡ true → fed bs p s ≡ went p s
unfolding fed
fed_over [] p s h = refl
fed_over (b ∷ bs) p s h = rw h

-- a run under way, of which the triples so far came to o and left these bytes
abbrev pub came : ℕ → List ℕ → RunOutcome → Went
came b l o = cond (eqb o.number 0) (went (parts b false 0 o.steps o.counts l) o.after) (met b o)

-- one byte of the twelve
taken_few : (b n x : ℕ) (c : Counts) (l : List ℕ) (s : State) → length (l ++ (x ∷ [])) < 12
    → taken x (parts b false 0 n c l) s ≡ went (parts b false 0 n c (l ++ (x ∷ []))) s
unfolding taken
taken_few b n x c l s h = rw (lt-ltb (length (l ++ (x ∷ []))) 12 h)

-- the twelfth
taken_full : (b n x : ℕ) (c : Counts) (l : List ℕ) (s : State) → 12 ≤ length (l ++ (x ∷ []))
    → taken x (parts b false 0 n c l) s ≡ met b (run_from b (triples (words_of (l ++ (x ∷ [])))) n c s)
unfolding taken
taken_full b n x c l s h = rw (le-ltb (length (l ++ (x ∷ []))) 12 h)

-- what feeding these bytes comes to, with l left before them
abbrev pub arrived : ℕ → List ℕ → ℕ → Counts → List ℕ → State → Went
arrived b bs n c l s = came b (drop (length (l ++ bs) / 12 * 12) (l ++ bs)) (run_from b (triples (words_of (l ++ bs))) n c s)

-- feeding goes on after a triple where that was done
fed_met : (b : ℕ) (ys : List ℕ) (o : RunOutcome) → ((n : ℕ) (c : Counts) (s : State) → fed ys (parts b false 0 n c []) s ≡ arrived b ys n c [] s)
    → fed ys (met b o).run (met b o).after ≡ came b (drop (length ys / 12 * 12) ys) (onward b (triples (words_of ys)) o)
fed_met b ys o h = go (eqb o.number 0) refl
  where
    go : (x : Bool) → eqb o.number 0 ≡ x
        → fed ys (met b o).run (met b o).after ≡ came b (drop (length ys / 12 * 12) ys) (onward b (triples (words_of ys)) o)
    go true e = rw (e, eqb-true o.number 0 e) (h o.steps o.counts o.after)
    go false e = fed_over ys (met b o).run o.after (rw e) ∙ rw (e, e)

-- what is left behind a triple and more bytes is what is left of those
pub drop_triple : (xs ys : List ℕ) → length xs ≡ 12 → drop (length (xs ++ ys) / 12 * 12) (xs ++ ys) ≡ drop (length ys / 12 * 12) ys
drop_triple xs ys h =
    let e : length (xs ++ ys) / 12 * 12 ≡ length xs + length ys / 12 * 12 = simp length-append (omega arith) in
    rw e (drop-append-add xs ys (length ys / 12 * 12))

-- one byte, and then the rest
fed_byte : (b x : ℕ) (bs : List ℕ)
    → ((n : ℕ) (c : Counts) (l : List ℕ) (s : State) → length l < 12 → fed bs (parts b false 0 n c l) s ≡ arrived b bs n c l s)
    → (n : ℕ) (c : Counts) (l : List ℕ) (s : State) → length l < 12
    → let w : Went = taken x (parts b false 0 n c l) s in fed bs w.run w.after ≡ arrived b bs n c (l ++ (x ∷ [])) s
fed_byte b x bs h n c l s f = go (ltb (length (l ++ (x ∷ []))) 12) refl
  where
    go : (y : Bool) → ltb (length (l ++ (x ∷ []))) 12 ≡ y
        → let w : Went = taken x (parts b false 0 n c l) s in fed bs w.run w.after ≡ arrived b bs n c (l ++ (x ∷ [])) s
    go true e = let z : length (l ++ (x ∷ [])) < 12 = ltb-true _ 12 e in rw (taken_few b n x c l s z) (h n c (l ++ (x ∷ [])) s z)
    go false e =
        let xs : List ℕ = l ++ (x ∷ []) in
        let z : 12 ≤ length xs = ltb-false _ 12 e in
        let t : length xs ≡ 12 = omega (arith, length-append l (x ∷ [])) in
        rw (taken_full b n x c l s z, drop_triple xs bs t, byte_triples xs bs (rw t), joined_from b (triples (words_of xs)) (triples (words_of bs)) n c s)
        (fed_met b bs (run_from b (triples (words_of xs)) n c s) (λ m d r. h m d [] r (omega arith)))

-- feeding comes to what a run of the whole triples comes to; where all of them are done, the bytes behind them are left
pub fed_all : (b n : ℕ) (c : Counts) (l : List ℕ) (s : State) (bs : List ℕ) → length l < 12
    → let total : List ℕ = l ++ bs in
    let o : RunOutcome = run_from b (triples (words_of total)) n c s in
    fed bs (parts b false 0 n c l) s
    ≡ cond (eqb o.number 0) (went (parts b false 0 o.steps o.counts (drop (length total / 12 * 12) total)) o.after) (met b o)
unfolding fed run_from
fed_all b n c l s [] h = let e : length l / 12 * 12 ≡ 0 = omega arith in rw (append-nil l, few_triples l h, e)
fed_all b n c l s (x ∷ bs) h = rw (← append_snoc l x bs) (fed_byte b x bs (λ m d k r. fed_all b m d k r bs) n c l s h)
