-- The numbering of places is one to one on the places that are there, and what a bounded instruction touches is there.
use mathlib.Core.Path.{◌≡◌, sym, ap, ◌∙◌}
use Prim.Native.Nat.{ℕ, zero, suc, ◌+◌, ◌*◌, ◌-◌, ◌/◌, ◌%◌, ◌<◌}
use native.Mathlib.Omega.{arith}
use mathlib.Core.Bool.{cond}
use borrow.Author.Tests.{lt-ltb, le-ltb}
use lib.Dec.{ltb}
use Rattle.pieces.specs.State.{Piece, A, R, C, VC}
use Rattle.terms.specs.declared.Half.{Half}
use Rattle.terms.specs.declared.Half.TheVariants.{Low, High}
use Rattle.pieces.specs.Place.{Place, at, vec, byte, reg}
use Rattle.model.specs.Number.{side, number}

-- half of $a[n] and $r n below 32 ($r is not cut: its place is the half Low), $v n below 32, $c and $vc n below 4, a byte below 8,192
abbrev pub There : Place → Type 0
There (at A n h) = n < 32
There (at R n Low) = n < 32
There (at R n High) = ⊥
There (vec n) = n < 32
There (at C n h) = n < 4
There (at VC n h) = n < 4
There (byte b) = b < 8192

-- a place that is there has a number below 8,336
pub number_lt : (p : Place) → There p → number p < 8336
number_lt (at A n Low) h = omega arith
number_lt (at A n High) h = omega arith
number_lt (at R n Low) h = omega arith
number_lt (at R n High) h = absurd h
number_lt (vec n) h = omega arith
number_lt (at C n Low) h = omega arith
number_lt (at C n High) h = omega arith
number_lt (at VC n Low) h = omega arith
number_lt (at VC n High) h = omega arith
number_lt (byte b) h = omega arith

-- ---- the way back: which place has a number

side_at : ℕ → Half
side_at zero = Low
side_at (suc n) = High

word : Piece → ℕ → Place
word p n = at p (n / 2) (side_at (n % 2))

-- a block of k numbers, and what follows it
block : ℕ → (ℕ → Place) → (ℕ → Place) → ℕ → Place
block k f g n = cond (ltb n k) (f n) (g (n - k))

inside : (k : ℕ) (f g : ℕ → Place) (n : ℕ) → n < k → block k f g n ≡ f n
unfolding block
inside k f g n h = rw (lt-ltb n k h)

beyond : (k : ℕ) (f g : ℕ → Place) (n : ℕ) → block k f g (k + n) ≡ g n
unfolding block
beyond k f g n =
    let e : k + n - k ≡ n = omega arith in
    rw (le-ltb (k + n) k (omega arith), e)

from_vC : ℕ → Place
from_vC = block 8 (word VC) byte

from_c : ℕ → Place
from_c = block 8 (word C) from_vC

from_v : ℕ → Place
from_v = block 32 vec from_c

from_r : ℕ → Place
from_r = block 32 reg from_v

place_at : ℕ → Place
place_at = block 64 (word A) from_r

past_A : (n : ℕ) → place_at (64 + n) ≡ from_r n
unfolding place_at
past_A n = beyond 64 (word A) from_r n

past : (a k : ℕ) (f g : ℕ → Place) → ((n : ℕ) → place_at (a + n) ≡ block k f g n) → (n : ℕ) → place_at (a + k + n) ≡ g n
past a k f g h n =
    let e : a + k + n ≡ a + (k + n) = omega arith in
    ap place_at e ∙ h (k + n) ∙ beyond k f g n

past_R : (n : ℕ) → place_at (96 + n) ≡ from_v n
unfolding from_r
past_R = past 64 32 reg from_v past_A

past_V : (n : ℕ) → place_at (128 + n) ≡ from_c n
unfolding from_v
past_V = past 96 32 vec from_c past_R

past_C : (n : ℕ) → place_at (136 + n) ≡ from_vC n
unfolding from_c
past_C = past 128 8 (word C) from_vC past_V

past_VC : (n : ℕ) → place_at (144 + n) ≡ byte n
unfolding from_vC
past_VC = past 136 8 (word VC) byte past_C

word_back : (p : Piece) (n : ℕ) (h : Half) → word p (2 * n + side h) ≡ at p n h
unfolding word side_at
word_back p n Low =
    let e : (2 * n + 0) / 2 ≡ n = omega arith in
    let f : (2 * n + 0) % 2 ≡ 0 = omega arith in
    rw (e, f)
word_back p n High =
    let e : (2 * n + 1) / 2 ≡ n = omega arith in
    let f : (2 * n + 1) % 2 ≡ 1 = omega arith in
    rw (e, f)

-- the numbers of k words are the first 2 * k
word_lt : (n k : ℕ) (h : Half) → n < k → 2 * n + side h < 2 * k
word_lt n k Low l = omega arith
word_lt n k High l = omega arith

back : (p : Place) → There p → place_at (number p) ≡ p
unfolding place_at from_r from_v from_c from_vC
back (at A n h) t = inside 64 (word A) from_r (2 * n + side h) (word_lt n 32 h t) ∙ word_back A n h
back (at R n Low) t = past_A n ∙ inside 32 reg from_v n t
back (at R n High) t = absurd t
back (vec n) t = past_R n ∙ inside 32 vec from_c n t
back (at C n h) t = past_V (2 * n + side h) ∙ inside 8 (word C) from_vC (2 * n + side h) (word_lt n 4 h t) ∙ word_back C n h
back (at VC n h) t = past_C (2 * n + side h) ∙ inside 8 (word VC) byte (2 * n + side h) (word_lt n 4 h t) ∙ word_back VC n h
back (byte b) t = past_VC b

-- two places that are there and have one number are one place
pub number_inj : (p q : Place) → There p → There q → number p ≡ number q → p ≡ q
number_inj p q t u e = sym (back p t) ∙ ap place_at e ∙ back q u
