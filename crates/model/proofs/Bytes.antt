-- The words of a list of bytes: of two lists joined, of a list's front, of a list of words' own bytes. And the triples of those words.
use mathlib.Core.Path.{◌≡◌, refl, sym, ap, ◌∙◌}
use Prim.Native.Nat.{ℕ, zero, suc, ◌+◌, ◌*◌, ◌/◌, ◌%◌, ◌≤◌, ◌<◌}
use native.Mathlib.Omega.{arith}
use native.Mathlib.Nat.{zero-add, add-zero}
use mathlib.Core.List.{List, [], ◌∷◌, ◌++◌}
use lib.ListN.{length, get_or, take, drop, length-append, length-drop, take-append-drop, get_or-append}
use lib.Seq.{length-take-le, drop-append-le}
use Rattle.model.specs.Address.{joined, split}
use Rattle.model.specs.Run.{triples}
use Rattle.model.specs.Parts.{first_words, words_of, bytes_of}
use Rattle.model.proofs.Triples.{triples_join, triples_short}

-- n words of a list of bytes are n
pub length_first : (n : ℕ) (bs : List ℕ) → length (first_words n bs) ≡ n
length_first zero bs = refl
length_first (suc n) bs = ap suc (length_first n (drop 4 bs))

-- a fourth as many words as there are bytes
pub length_words : (bs : List ℕ) → length (words_of bs) ≡ length bs / 4
unfolding words_of
length_words bs = length_first (length bs / 4) bs

-- the n words of a list that has no other bytes
pub first_words_lem : (n : ℕ) (bs : List ℕ) → length bs ≡ n * 4 → words_of bs ≡ first_words n bs
unfolding words_of
first_words_lem n bs h = let e : length bs / 4 ≡ n = omega arith in rw e

-- ---- joined lists

-- what the first word of a list is made of stands there with more bytes behind it too
word_within : (n : ℕ) (xs ys : List ℕ) → 4 ≤ length xs
    → first_words (suc n) (xs ++ ys) ≡ joined (get_or xs 0 0 ∷ get_or xs 1 0 ∷ get_or xs 2 0 ∷ get_or xs 3 0 ∷ []) ∷ first_words n (drop 4 xs ++ ys)
word_within n xs ys h =
    let at : (k : ℕ) → k < 4 → get_or (xs ++ ys) k 0 ≡ get_or xs k 0 = λ k g. get_or-append xs ys 0 k (omega arith) in
    rw (at 0 (omega arith), at 1 (omega arith), at 2 (omega arith), at 3 (omega arith), drop-append-le 4 xs ys (omega arith))

-- the n words of a list that has no other bytes, and m of the bytes behind it
first_join : (n m : ℕ) (xs ys : List ℕ) → length xs ≡ n * 4 → first_words (n + m) (xs ++ ys) ≡ first_words n xs ++ first_words m ys
first_join zero m [] ys h = rw (zero-add m) refl
first_join zero m (x ∷ xs) ys h = absurd (omega arith)
first_join (suc n) m xs ys h =
    let l : length (drop 4 xs) ≡ n * 4 = simp length-drop (omega arith) in
    let e : suc n + m ≡ suc (n + m) = omega arith in
    ap (λ (k : ℕ). first_words k (xs ++ ys)) e
    ∙ word_within (n + m) xs ys (omega arith)
    ∙ ap (λ (ws : List ℕ). joined (get_or xs 0 0 ∷ get_or xs 1 0 ∷ get_or xs 2 0 ∷ get_or xs 3 0 ∷ []) ∷ ws) (first_join n m (drop 4 xs) ys l)

-- where the first list is of whole words, its own come before the second one's
pub words_join : (xs ys : List ℕ) → length xs % 4 ≡ 0 → words_of (xs ++ ys) ≡ words_of xs ++ words_of ys
unfolding words_of
words_join xs ys h =
    let e : length (xs ++ ys) / 4 ≡ length xs / 4 + length ys / 4 = simp length-append (omega arith) in
    rw e (first_join (length xs / 4) (length ys / 4) xs ys (omega arith))

-- bytes behind the first n words do not count
pub first_within : (n : ℕ) (xs ys : List ℕ) → n * 4 ≤ length xs → first_words n (xs ++ ys) ≡ first_words n xs
first_within zero xs ys h = refl
first_within (suc n) xs ys h =
    let l : n * 4 ≤ length (drop 4 xs) = simp length-drop (omega arith) in
    word_within n xs ys (omega arith)
    ∙ ap (λ (ws : List ℕ). joined (get_or xs 0 0 ∷ get_or xs 1 0 ∷ get_or xs 2 0 ∷ get_or xs 3 0 ∷ []) ∷ ws) (first_within n (drop 4 xs) ys l)

-- the first n words are those of the front
pub words_take : (n : ℕ) (bs : List ℕ) → n * 4 ≤ length bs → first_words n bs ≡ words_of (take (n * 4) bs)
words_take n bs h =
    let l : length (take (n * 4) bs) ≡ n * 4 = length-take-le (n * 4) bs h in
    ap (first_words n) (sym (take-append-drop (n * 4) bs))
    ∙ first_within n (take (n * 4) bs) (drop (n * 4) bs) (omega arith)
    ∙ sym (first_words_lem n (take (n * 4) bs) l)

-- ---- triples

-- where the first list is of whole triples, its own come before the second one's
pub byte_triples : (xs ys : List ℕ) → length xs % 12 ≡ 0 → triples (words_of (xs ++ ys)) ≡ triples (words_of xs) ++ triples (words_of ys)
byte_triples xs ys h =
    let e : length (words_of xs) ≡ length xs / 4 = length_words xs in
    ap triples (words_join xs ys (omega arith)) ∙ triples_join (words_of xs) (words_of ys) (rw e (omega arith))

-- fewer bytes than twelve have none
pub few_triples : (ys : List ℕ) → length ys < 12 → triples (words_of ys) ≡ []
few_triples ys h = let e : length (words_of ys) ≡ length ys / 4 = length_words ys in triples_short (words_of ys) (omega arith)

-- ---- the bytes of words

-- four for each
pub length_bytes : (ws : List ℕ) → length (bytes_of ws) ≡ length ws * 4
length_bytes [] = refl
length_bytes (w ∷ ws) = let e : length (bytes_of ws) ≡ length ws * 4 = length_bytes ws in omega arith

-- a byte off the low end leaves the rest above it
low_byte : (w : ℕ) → w % 256 + w / 256 * 256 ≡ w
low_byte w = omega arith

-- a word is put together again from its four bytes
pub joined_split : (w : ℕ) → w < 4294967296 → joined (split w) ≡ w
joined_split w h =
    let a : w / 65536 ≡ w / 256 / 256 = omega arith in
    let b : w / 16777216 ≡ w / 65536 / 256 = omega arith in
    let c : w / 16777216 % 256 ≡ w / 16777216 = omega arith in
    rw (c, add-zero, b, low_byte (w / 65536), a, low_byte (w / 256)) (low_byte w)

-- and so the bytes of words make those words
pub words_bytes : (ws : List ℕ) → ((i : ℕ) → i < length ws → get_or ws i 0 < 4294967296) → words_of (bytes_of ws) ≡ ws
unfolding words_of
words_bytes [] h = refl
words_bytes (w ∷ ws) h =
    words_join (split w) (bytes_of ws) refl ∙ (λ i. joined_split w (h 0 (omega arith)) i ∷ words_bytes ws (λ k g. h (suc k) (omega arith)) i)
