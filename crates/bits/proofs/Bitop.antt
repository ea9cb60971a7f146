-- The four products of a truth table, joined, are the bit operation, at any width.
use mathlib.Core.Path.{◌≡◌, refl, ◌∙◌}
use mathlib.Core.Bool.{Bool, true, false, cond}
use Prim.Native.Nat.{ℕ, zero, suc, ◌+◌, ◌-◌, ◌*◌, ◌/◌, ◌%◌, ◌^◌, ◌<◌}
use native.Mathlib.Nat.{pow-suc}
use native.Mathlib.Omega.{arith}
use lib.Bits.{bit_and, bit_or, and_block, or_block, or_zero_r, and_lt, or_lt}
use Rattle.bits.specs.Bitop.{bit, bitop}

-- p is q and below it the digit d
record Digit (p q d : ℕ) : Type 0 where
  is : p ≡ q * 2 + d
  small : d < 2

join : {p q d p' q' d' : ℕ} → Digit p q d → Digit p' q' d' → Digit (bit_or p p') (bit_or q q') (bit_or d d')
join {q = q} {d} {q' = q'} {d'} x y = record { is = rw (x.is, y.is) (or_block 1 q q' d d' x.small y.small); small = or_lt 1 d d' x.small y.small }

meet : {p q d p' q' d' : ℕ} → Digit p q d → Digit p' q' d' → Digit (bit_and p p') (bit_and q q') (bit_and d d')
meet {q = q} {d} {q' = q'} {d'} x y = record { is = rw (x.is, y.is) (and_block 1 q q' d d' x.small y.small); small = and_lt 1 d d' x.small y.small }

none : (n : ℕ) {p q d : ℕ} → q < 2 ^ n → Digit p q d → Digit ((2 ^ suc n - 1) - p) ((2 ^ n - 1) - q) (1 - d)
none n h x = record { is = omega (arith, pow-suc 2 n, x.is, x.small); small = omega arith }

gated : (t : Bool) {p q d : ℕ} → Digit p q d → Digit (cond t p 0) (cond t q 0) (cond t d 0)
gated true x = x
gated false x = record { is = refl; small = omega arith }

-- as the code has it
abbrev pub products : ℕ → ℕ → ℕ → ℕ → ℕ
products n op a b =
    bit_or (bit_or (bit_or (cond (bit 0 op) ((2 ^ n - 1) - bit_or a b) 0) (cond (bit 1 op) (bit_and a ((2 ^ n - 1) - b)) 0)) (cond (bit 2 op) (bit_and b ((2 ^ n - 1) - a)) 0)) (cond (bit 3 op) (bit_and a b) 0)

low : (a : ℕ) → Digit a (a / 2) (a % 2)
low a = record { is = omega arith; small = omega arith }

never : (t : Bool) → ◌≡◌ {A = ℕ} (cond t 0 0) 0
never true = refl
never false = refl

one_bit : (op x y : ℕ) → x < 2 → y < 2 → products 1 op x y ≡ cond (bit (x + 2 * y) op) 1 0
one_bit op zero zero h k = simp (never, or_zero_r)
one_bit op (suc zero) zero h k = simp (never, or_zero_r)
one_bit op zero (suc zero) h k = simp (never, or_zero_r)
one_bit op (suc zero) (suc zero) h k = simp never
one_bit op (suc (suc x)) y h k = let z : ⊥ = omega arith in absurd z
one_bit op zero (suc (suc y)) h k = let z : ⊥ = omega arith in absurd z
one_bit op (suc zero) (suc (suc y)) h k = let z : ⊥ = omega arith in absurd z

pub products_is : (n op a b : ℕ) → a < 2 ^ n → b < 2 ^ n → products n op a b ≡ bitop n op a b
unfolding bitop
products_is zero op a b h k =
    let ea : a ≡ 0 = omega arith in let eb : b ≡ 0 = omega arith in rw (ea, eb) (simp (never, or_zero_r))
products_is (suc n) op a b h k =
    let ha : a / 2 < 2 ^ n = omega (arith, pow-suc 2 n) in
    let hb : b / 2 < 2 ^ n = omega (arith, pow-suc 2 n) in
    let x = low a in let y = low b in
    (join (join (join (gated (bit 0 op) (none n (or_lt n (a / 2) (b / 2) ha hb) (join x y))) (gated (bit 1 op) (meet x (none n hb y)))) (gated (bit 2 op) (meet y (none n ha x)))) (gated (bit 3 op) (meet x y))).is
    ∙ cc (products_is n op (a / 2) (b / 2) ha hb, one_bit op (a % 2) (b % 2) x.small y.small)
