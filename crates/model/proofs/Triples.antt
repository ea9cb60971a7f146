-- The triples of a list of words: of a list that starts with one, of two lists joined, from a place in a list on. And how a list call
-- starts on them.
use mathlib.Core.Path.{◌≡◌, refl, ap, ◌∙◌}
use Prim.Native.Nat.{ℕ, zero, suc, ◌+◌, ◌*◌, ◌/◌, ◌%◌, ◌≤◌, ◌<◌}
use native.Mathlib.Omega.{arith}
use native.Mathlib.Nat.{zero-add}
use mathlib.Core.Bool.{Bool, true, false, cond}
use mathlib.Core.List.{List, [], ◌∷◌, ◌++◌}
use borrow.Author.Tests.{eqb-true, eqb-false}
use lib.Dec.{eqb}
use lib.ListN.{length, get_or, drop, length-append, length-drop, drop_of_length-le, get_or-append}
use lib.Seq.{drop-cons, drop-append-le}
use Rattle.terms.specs.Counts.{none}
use Rattle.pieces.specs.State.{State, Sized, sized_of}
use Rattle.pieces.proofs.Right.{sized_if, sized_only, clash}
use Rattle.model.specs.Run.{Triple, first_triples, triples, RunOutcome, ended, run_from, run_of}

-- the words' first triple comes before those of the rest
pub triples_cons : (w side mask : ℕ) (ws : List ℕ)
    → triples (w ∷ side ∷ mask ∷ ws) ≡ record { word = w; side = side; mask = mask } ∷ triples ws
unfolding triples
triples_cons w side mask ws = let e : suc (suc (suc (length ws))) / 3 ≡ suc (length ws / 3) = omega arith in rw e refl

-- fewer words than three have none
pub triples_short : (ws : List ℕ) → length ws < 3 → triples ws ≡ []
unfolding triples
triples_short ws h = let e : length ws / 3 ≡ 0 = omega arith in rw e refl

length_first : (n : ℕ) (ws : List ℕ) → length (first_triples n ws) ≡ n
length_first zero ws = refl
length_first (suc n) ws = ap suc (length_first n (drop 3 ws))

-- a third as many as there are words
pub triples_length : (ws : List ℕ) → length (triples ws) ≡ length ws / 3
unfolding triples
triples_length ws = length_first (length ws / 3) ws

-- ---- joined lists

-- the n triples of a list that has no other words, and m of the words behind it
first_join : (n m : ℕ) (xs ys : List ℕ) → length xs ≡ n * 3 → first_triples (n + m) (xs ++ ys) ≡ first_triples n xs ++ first_triples m ys
first_join zero m [] ys h = rw (zero-add m) refl
first_join zero m (x ∷ xs) ys h = absurd (omega arith)
first_join (suc n) m xs ys h =
    let l : length (drop 3 xs) ≡ n * 3 = simp length-drop (omega arith) in
    let e : suc n + m ≡ suc (n + m) = omega arith in
    let at : (k : ℕ) → k < 3 → get_or (xs ++ ys) k 0 ≡ get_or xs k 0 = λ k g. get_or-append xs ys 0 k (omega arith) in
    rw (e, at 0 (omega arith), at 1 (omega arith), at 2 (omega arith), drop-append-le 3 xs ys (omega arith))
    (ap (λ (ts : List Triple). record { word = get_or xs 0 0; side = get_or xs 1 0; mask = get_or xs 2 0 } ∷ ts) (first_join n m (drop 3 xs) ys l))

-- where the first list is of whole triples, its own come before the second one's
pub triples_join : (xs ys : List ℕ) → length xs % 3 ≡ 0 → triples (xs ++ ys) ≡ triples xs ++ triples ys
unfolding triples
triples_join xs ys h =
    let e : length (xs ++ ys) / 3 ≡ length xs / 3 + length ys / 3 = simp length-append (omega arith) in
    rw e (first_join (length xs / 3) (length ys / 3) xs ys (omega arith))

-- ---- from word i on

-- the three words at i, and what comes after them
three : (ws : List ℕ) (i : ℕ) → i + 2 < length ws → drop i ws ≡ get_or ws i 0 ∷ get_or ws (i + 1) 0 ∷ get_or ws (i + 2) 0 ∷ drop (i + 3) ws
three ws i h =
    let e1 : suc i ≡ i + 1 = omega arith in
    let e2 : suc (i + 1) ≡ i + 2 = omega arith in
    let e3 : suc (i + 2) ≡ i + 3 = omega arith in
    drop-cons ws i 0 (omega arith)
    ∙ ap (λ (l : List ℕ). get_or ws i 0 ∷ l)
    ((rw e1 refl ∙ drop-cons ws (i + 1) 0 (omega arith))
    ∙ ap (λ (l : List ℕ). get_or ws (i + 1) 0 ∷ l) ((rw e2 refl ∙ drop-cons ws (i + 2) 0 h) ∙ ap (λ (n : ℕ). get_or ws (i + 2) 0 ∷ drop n ws) e3))

-- the triple there, and those after it
pub triples_at : (ws : List ℕ) (i : ℕ) → i + 2 < length ws
    → triples (drop i ws) ≡ record { word = get_or ws i 0; side = get_or ws (i + 1) 0; mask = get_or ws (i + 2) 0 } ∷ triples (drop (i + 3) ws)
triples_at ws i h = ap triples (three ws i h) ∙ triples_cons (get_or ws i 0) (get_or ws (i + 1) 0) (get_or ws (i + 2) 0) (drop (i + 3) ws)

-- none at the end
pub triples_end : (ws : List ℕ) (i : ℕ) → length ws ≤ i → triples (drop i ws) ≡ []
triples_end ws i h = ap triples (drop_of_length-le ws h) ∙ triples_short [] (omega arith)

-- ---- the list call

-- what holds of a list call in each of the three ways that it can start, with what is known there
pub opening : (P : RunOutcome → Type 0) (budget : ℕ) (ws : List ℕ) (s : State)
    → (Sized s → length ws % 3 ≡ 0 → P (run_from budget (triples ws) 0 none s))
    → (Sized s → (length ws % 3 ≡ 0 → ⊥) → P (ended 6 0 none s))
    → ((Sized s → ⊥) → P (ended 5 0 none s))
    → P (run_of budget ws s)
unfolding run_of
opening P budget ws s p q r =
    go (sized_of s) (eqb (length ws % 3) 0) (sized_if s) (λ h. sized_only s h) (eqb-true (length ws % 3) 0) (eqb-false (length ws % 3) 0)
  where
    go : (x y : Bool) → (x ≡ true → Sized s) → (Sized s → x ≡ true) → (y ≡ true → length ws % 3 ≡ 0) → (y ≡ false → length ws % 3 ≡ 0 → ⊥)
        → P (cond x (cond y (run_from budget (triples ws) 0 none s) (ended 6 0 none s)) (ended 5 0 none s))
    go true true a b c d = p (a refl) (c refl)
    go true false a b c d = q (a refl) (d refl)
    go false y a b c d = r (λ h. clash (b h))
