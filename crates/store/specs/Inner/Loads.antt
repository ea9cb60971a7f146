-- Reading and writing a list of places of a store, and words and their bytes.
use Rattle.std.specs.Prelude.{ℕ, ◌+◌, ◌*◌, ◌/◌, ◌%◌, List, [], ◌∷◌, map, get_or, set, drop}

-- the bytes at some places, in their order
unfoldable pub loaded : List ℕ → List ℕ → List ℕ
loaded ds ps = map (λ p. get_or ds p 0) ps

-- a byte to each of some places, one after the other
unfoldable pub stored : List ℕ → List ℕ → List ℕ → List ℕ
stored ds [] vs = ds
stored ds (p ∷ ps) vs = stored (set ds p (get_or vs 0 0)) ps (drop 1 vs)

-- a word of its bytes, low first: document 01, "Byte k of `$r` is bits 8k to 8k+7"
unfoldable pub word_of : List ℕ → ℕ
word_of [] = 0
word_of (b ∷ bs) = b + word_of bs * 256

unfoldable pub bytes_of : ℕ → List ℕ
bytes_of w = w % 256 ∷ w / 256 % 256 ∷ w / 65536 % 256 ∷ w / 16777216 % 256 ∷ []
