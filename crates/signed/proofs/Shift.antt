-- The code's shift of a small signed number, eight bits up and then down by the count and eight, is the definition's.
use mathlib.Core.Path.{◌≡◌, refl, sym, ap, ◌∙◌}
use Prim.Native.Nat.{ℕ, zero, suc, ◌+◌, ◌-◌, ◌*◌, ◌^◌, ◌<◌}
use native.Mathlib.Nat.{add-mul, mul_assoc, lt_of_le_of_lt}
use native.Mathlib.Omega.{arith}
use lib.Pow.{pow-add, pow_pos, shl-shr, shr-shr, high, ones_lt, ones_split}
use lib.IntN.{ℤ, pos, negsuc, ◌-ℤ◌, ◌*ℤ◌, neg_ℤ}
use lib.Signed.{mag, shr_z, mag_shr}
use borrow.Author.Tests.{le-ltb}
use mir.Syntax.{w32}
use mir.Val.{SFits, of_z, to_z}
use mir.Facts.{to_z-of_z}
use Rattle.signed.specs.Signed.{shifted}

-- a product by its sign
abbrev times : ℤ → ℕ → ℤ
times (pos a) m = pos (a * m)
times (negsuc a) m = negsuc (a * m + (m - 1))

negative : (m n : ℕ) → m ≡ suc n → neg_ℤ (pos m) ≡ negsuc n
negative m n e = rw e

times_is : (s : ℤ) (m : ℕ) → 0 < m → s *ℤ pos m ≡ times s m
times_is (pos a) m h = refl
times_is (negsuc a) m h = negative (suc a * m) (a * m + (m - 1)) (omega (arith, add-mul a 1 m))

times_one : (s : ℤ) → times s 1 ≡ s
times_one (pos a) = ap pos (omega arith)
times_one (negsuc a) = ap negsuc (omega arith)

mag_times : (s : ℤ) → mag s < 256 → mag (times s 256) < 2 ^ 31
mag_times (pos a) h = omega arith
mag_times (negsuc a) h = omega arith

split : (a i j : ℕ) → a * 2 ^ (i + j) ≡ a * 2 ^ i * 2 ^ j
split a i j = ap (λ (m : ℕ). a * m) (pow-add 2 i j) ∙ sym (mul_assoc a (2 ^ i) (2 ^ j))

-- up by i + j bits and down by j
down : (s : ℤ) (i j : ℕ) → shr_z (times s (2 ^ (i + j))) (2 ^ j) ≡ times s (2 ^ i)
down (pos a) i j = rw (split a i j) (ap pos (shl-shr (a * 2 ^ i) j))
down (negsuc a) i j =
    let e : a * 2 ^ (i + j) + (2 ^ (i + j) - 1) ≡ (a * 2 ^ i + (2 ^ i - 1)) * 2 ^ j + (2 ^ j - 1) =
    omega (arith, split a i j, ones_split i j, add-mul (a * 2 ^ i) (2 ^ i - 1) (2 ^ j)) in
    rw e (ap negsuc (high (a * 2 ^ i + (2 ^ i - 1)) j (ones_lt j)))

down_down : (s : ℤ) (i j : ℕ) → shr_z (shr_z s (2 ^ i)) (2 ^ j) ≡ shr_z s (2 ^ (i + j))
down_down (pos a) i j = ap pos (shr-shr a i j)
down_down (negsuc a) i j = ap negsuc (shr-shr a i j)

-- the count and eight
abbrev places : ℤ → ℕ
places (pos k) = 8 + k
places (negsuc k) = 7 - k

count_is : (n : ℤ) → mag n < 8 → pos 8 -ℤ neg_ℤ n ≡ pos (places n)
count_is (pos zero) h = refl
count_is (pos (suc k)) h = refl
count_is (negsuc k) h = rw (le-ltb 8 (suc k) (omega arith)) (ap pos (omega arith))

raise_and_lower : (s n : ℤ) → mag n < 8 → shr_z (times s 256) (2 ^ places n) ≡ shifted s n
unfolding shifted
raise_and_lower s (pos k) h = sym (down_down (times s 256) 8 k) ∙ ap (λ (z : ℤ). shr_z z (2 ^ k)) (down s 0 8 ∙ times_one s)
raise_and_lower s (negsuc k) h =
    let e : suc k + (7 - k) ≡ 8 = omega arith in (rw e at (down s (suc k) (7 - k))) ∙ sym (times_is s (2 ^ suc k) (pow_pos (suc k)))

module _ (s n : ℤ) (hs : mag s < 256) (hn : mag n < 8) where
  pub raised_fits : SFits w32 (s *ℤ pos 256)
  raised_fits = rw (times_is s 256 (omega arith)) (record { sfits = mag_times s hs })

  pub shifted_is : to_z w32 (of_z w32 (shr_z (s *ℤ pos 256) (2 ^ of_z w32 (pos 8 -ℤ neg_ℤ n)))) ≡ shifted s n
  shifted_is = rw (count_is n hn, times_is s 256 (omega arith))
      (to_z-of_z {w = w32} (record { sfits = lt_of_le_of_lt (mag_shr (times s 256) (2 ^ places n)) (mag_times s hs) }) ∙ raise_and_lower s n hn)
