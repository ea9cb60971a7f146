-- A bit operation on packed flags is the packed flags of the operation on each.
use mathlib.Core.Path.{◌≡◌, refl, ap, ◌∙◌}
use mathlib.Core.Bool.{Bool, true, false, cond}
use mathlib.Core.List.{List}
use Prim.Native.Nat.{ℕ, zero, suc, ◌+◌, ◌*◌, ◌/◌, ◌%◌, ◌^◌, ◌<◌}
use native.Mathlib.Nat.{suc-add, div-one}
use native.Mathlib.Omega.{arith}
use lib.Bits.{bit_xor, xor_self, xor_add_and, and_le_l, and_le_r}
use lib.Dec.{eqb, ltb, leb}
use lib.ListN.{get_or}
use lib.Pow.{mod-pow-add}
use borrow.Author.Tests.{eqb-true, eqb-false, eq-eqb, ne_eqb}
use Rattle.bits.specs.Bitop.{bit, bitop}
use Rattle.lane.specs.Lane.{Lane, apart, cmpad_lane}
use Rattle.lanes.specs.declared.Flags.{Flags}
use Rattle.lanes.specs.Lanes.{listed, flags, cmpad_flags}
use Rattle.lanes.specs.Inner.Unpacked.{zeros_of, tops_of}
use Rattle.lanes.proofs.Listed.{element}
use Rattle.lanes.proofs.Packing.{flags_same, flags_low, flag_bit, digit, half, tops_lt}
use Rattle.lanes.proofs.Unpacking.{full}

flags_none : (f : ℕ → Bool) → 0 ≡ flags 0 f
unfolding flags
flags_none f = refl

-- the operation, bit by bit
abbrev bits_of : ℕ → ℕ → ℕ → ℕ → Bool
bits_of op a b i = bit (a / 2 ^ i % 2 + 2 * (b / 2 ^ i % 2)) op

bitop_flags : (n op a b : ℕ) → bitop n op a b ≡ flags n (bits_of op a b)
unfolding bitop
bitop_flags zero op a b = flags_none (bits_of op a b)
bitop_flags (suc n) op a b =
    ap (λ (x : ℕ). x * 2 + cond (bit (a % 2 + 2 * (b % 2)) op) 1 0)
    (bitop_flags n op (a / 2) (b / 2) ∙ flags_same n (bits_of op (a / 2) (b / 2)) (λ i. bits_of op a b (suc i)) (λ i h. rw (half a i, half b i)))
    ∙ rw (flags_low n (bits_of op a b), div-one a, div-one b)

-- a narrower one is the low part of a wider one
cut : (x d n : ℕ) → d < 2 → (x * 2 + d) % 2 ^ suc n ≡ x % 2 ^ n * 2 + d
cut x d n h =
    let e : suc n ≡ n + 1 = omega arith in
    let q : (x * 2 + d) / 2 ≡ x = omega arith in
    let r : (x * 2 + d) % 2 ≡ d = omega arith in rw (e, mod-pow-add (x * 2 + d) n 1, q, r)

pub bitop_low : (n m op a b : ℕ) → bitop (n + m) op a b % 2 ^ n ≡ bitop n op a b
unfolding bitop
bitop_low zero m op a b = omega arith
bitop_low (suc n) m op a b =
    rw (suc-add n m)
    (cut (bitop (n + m) op (a / 2) (b / 2)) (cond (bit (a % 2 + 2 * (b % 2)) op) 1 0) n (digit (bit (a % 2 + 2 * (b % 2)) op))
    ∙ ap (λ (x : ℕ). x * 2 + cond (bit (a % 2 + 2 * (b % 2)) op) 1 0) (bitop_low n m op (a / 2) (b / 2)))

xor_zero : (a b : ℕ) → eqb (bit_xor a b) 0 ≡ eqb a b
xor_zero a b = pick (eqb a b) refl
  where
    pick : (t : Bool) → eqb a b ≡ t → eqb (bit_xor a b) 0 ≡ t
    pick true e = rw (eqb-true a b e) (eq-eqb (bit_xor b b) 0 (xor_self b))
    pick false e = ne_eqb (bit_xor a b) 0 (λ z. eqb-false a b e (omega (arith, xor_add_and a b, and_le_l a b, and_le_r a b)))

module _ (op input : ℕ) (a other b : List ℕ) {d : List ℕ} (e : d ≡ listed 16 (λ i. apart (get_or b i 0) (get_or a i 0))) where
  abbrev lane : ℕ → Lane
  lane i = cmpad_lane op (input / 2 ^ i % 2) (get_or a i 0) (get_or other i 0) (get_or b i 0)

  pub zeros_are : {x : List ℕ} → x ≡ listed 16 (λ i. bit_xor (get_or d i 0) (get_or other i 0)) → zeros_of x ≡ flags 16 (λ i. (lane i).zero)
  unfolding zeros_of cmpad_lane
  zeros_are p = flags_same 16 _ _ (λ i h. rw (element _ p i h, element _ e i h) (xor_zero (apart (get_or b i 0) (get_or a i 0)) (get_or other i 0)))

  pub signs_are : {l : List ℕ} → l ≡ listed 16 (λ i. cond (ltb (get_or d i 0) (get_or other i 0)) 255 0)
      → bitop 16 op input (tops_of l) ≡ flags 16 (λ i. (lane i).sign)
  unfolding tops_of cmpad_lane
  signs_are {l} p =
      bitop_flags 16 op input _
      ∙ flags_same 16 _ _ (λ i h. rw (flag_bit 16 (λ i. leb 0x80 (get_or l i 0)) i h, element _ p i h, element _ e i h, full _))

  pub compared : {x l : List ℕ} {w s : ℕ} → x ≡ listed 16 (λ i. bit_xor (get_or d i 0) (get_or other i 0))
      → l ≡ listed 16 (λ i. cond (ltb (get_or d i 0) (get_or other i 0)) 255 0) → w ≡ zeros_of x * 65536 + tops_of l → s ≡ bitop 32 op input (w % 65536)
      → ◌≡◌ {A = Flags} (record { signs = s % 65536; zeros = w / 65536 }) (cmpad_flags op input a other b)
  unfolding cmpad_flags
  compared {x} {l} {w} p q r k =
      let high : w / 65536 ≡ zeros_of x = omega (arith, tops_lt l) in
      let low : w % 65536 ≡ tops_of l = omega (arith, tops_lt l) in
      rw (k, low, bitop_low 16 16 op input (tops_of l), high, signs_are q, zeros_are p)
