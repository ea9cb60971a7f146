-- Words put into a buffer one after the other.
use mathlib.Core.Path.{◌≡◌, refl, sym, ap, ap₂, ◌∙◌}
use mathlib.Core.List.{List, [], ◌∷◌, ◌++◌}
use Prim.Native.Nat.{ℕ, zero, suc, ◌+◌, ◌*◌, ◌≤◌, ◌<◌}
use native.Mathlib.Omega.{arith}
use lib.ListN.{length, get_or, set, drop, length-append, length-drop}
use lib.Seq.{append_snoc, drop-cons, drop-drop, get_or-drop, set_at}
use Rattle.model.specs.Parts.{first_words}
use Rattle.model.proofs.Bytes.{length_first}
use Rattle.parts.specs.Inner.Feed.{word_at}

-- the word at a place of the bytes from n on
pub word_drop : (bs : List ℕ) (n i : ℕ) → word_at (drop n bs) i ≡ word_at bs (n + i)
word_drop bs n i =
    let e1 : n + (i + 1) ≡ n + i + 1 = omega arith in
    let e2 : n + (i + 2) ≡ n + i + 2 = omega arith in
    let e3 : n + (i + 3) ≡ n + i + 3 = omega arith in
    rw (get_or-drop n bs i 0, get_or-drop n bs (i + 1) 0, get_or-drop n bs (i + 2) 0, get_or-drop n bs (i + 3) 0, e1, e2, e3) refl

-- one word more
first_snoc : (n : ℕ) (bs : List ℕ) → first_words (n + 1) bs ≡ first_words n bs ++ (word_at bs (n * 4) ∷ [])
first_snoc zero bs = refl
first_snoc (suc n) bs =
    let e : suc n + 1 ≡ suc (n + 1) = omega arith in
    let f : suc n * 4 ≡ 4 + n * 4 = omega arith in
    rw (e, f, ← word_drop bs 4 (n * 4)) (ap (λ (ws : List ℕ). word_at bs 0 ∷ ws) (first_snoc n (drop 4 bs)))

-- the first n words of the bytes, then what the buffer held
abbrev pub filled : ℕ → List ℕ → List ℕ → List ℕ
filled n bs w = first_words n bs ++ drop n w

-- the buffer is as long as it was
pub filled_length : (n : ℕ) (bs w : List ℕ) → n ≤ length w → length (filled n bs w) ≡ length w
filled_length n bs w h = length-append (first_words n bs) (drop n w) ∙ rw (length_first n bs, length-drop n w) (omega arith)

-- a turn of the loop
pub filled_more : (n x : ℕ) (bs w : List ℕ) → n < length w → x ≡ word_at bs (n * 4) → set (filled n bs w) n x ≡ filled (n + 1) bs w
filled_more n x bs w h e =
    let s : suc n ≡ n + 1 = omega arith in
    ap (λ (r : List ℕ). set (first_words n bs ++ r) n x) (drop-cons w n 0 h)
    ∙ set_at (first_words n bs) (get_or w n 0) (drop (suc n) w) x n (length_first n bs)
    ∙ rw (s, e, first_snoc n bs) (sym (append_snoc (first_words n bs) (word_at bs (n * 4)) (drop (n + 1) w)))

-- the words of twelve bytes
pub three : (bs : List ℕ) → first_words 3 bs ≡ word_at bs 0 ∷ word_at bs 4 ∷ word_at bs 8 ∷ []
three bs =
    ap₂ (λ (y z : ℕ). word_at bs 0 ∷ y ∷ z ∷ []) (word_drop bs 4 0) (ap (λ (l : List ℕ). word_at l 0) (drop-drop 4 4 bs) ∙ word_drop bs 8 0)
