-- The code's shifts and masks are the definitions' quotients and remainders.
--
use mathlib.Core.Path.{◌≡◌, refl, sym, ap, ap₂, ◌∙◌}
use Prim.Native.Nat.{ℕ, zero, suc, ◌+◌, ◌*◌, ◌-◌, ◌/◌, ◌%◌, ◌^◌, ◌≤◌, ◌<◌}
use native.Mathlib.Omega.{arith}
use native.Mathlib.Nat.{mod-lt, mod-eq_of_lt, div-add-mod', div-div-eq-div-mul, le_trans}
use mathlib.Core.List.{[], ◌∷◌}
use lib.ListN.{get_or}
use lib.Bits.{bit_and, bit_xor, and_block, and_mask}
use lib.Pow.{split, pow_pos, ones_lt, pow_mono}
use Rattle.banks.specs.Bank.{hilo_of, cell_of, turn_of, bank_of, place_of, at}
use Rattle.banks.specs.Line.{stride_of, row_start, word_start, column_start}
use Rattle.banks.specs.Inner.Access.{cells_of}
use Rattle.terms.specs.declared.Way.TheVariants.{Vertical}

-- a mask of m low bits, and of j bits from bit k on
pub and_two : (a j k m : ℕ) → m ≤ k → bit_and a ((2 ^ j - 1) * 2 ^ k + (2 ^ m - 1)) ≡ a / 2 ^ k % 2 ^ j * 2 ^ k + a % 2 ^ k % 2 ^ m
and_two a j k m h =
    ap (λ (x : ℕ). bit_and x ((2 ^ j - 1) * 2 ^ k + (2 ^ m - 1))) (sym (split a k))
    ∙ and_block k (a / 2 ^ k) (2 ^ j - 1) (a % 2 ^ k) (2 ^ m - 1) (mod-lt a (pow_pos k)) (le_trans (ones_lt m) (pow_mono h))
    ∙ ap₂ (λ (x y : ℕ). x * 2 ^ k + y) (and_mask (a / 2 ^ k) j) (and_mask (a % 2 ^ k) m)

pub row_mask : (a : ℕ) → bit_and a 0x1ff0 ≡ row_start a
unfolding row_start
row_mask a = and_two a 9 4 0 (omega arith) ∙ omega arith

pub word_mask : (a : ℕ) → bit_and a 0x1ffc ≡ word_start a
unfolding word_start
word_mask a = and_two a 11 2 0 (omega arith) ∙ omega arith

pub column_mask : (c a : ℕ) → c < 4 → bit_and a (bit_xor 0x1fff (0xf0 * 2 ^ c % 2 ^ 64)) ≡ column_start c a
unfolding column_start stride_of
column_mask zero a h = and_two a 5 8 4 (omega arith) ∙ omega arith
column_mask (suc zero) a h = and_two a 4 9 5 (omega arith) ∙ omega arith
column_mask (suc (suc zero)) a h = and_two a 3 10 6 (omega arith) ∙ omega arith
column_mask (suc (suc (suc zero))) a h = and_two a 2 11 7 (omega arith) ∙ omega arith
column_mask (suc (suc (suc (suc c)))) a h = absurd (omega arith)

pub stride_shift : (c : ℕ) → c < 4 → 16 * 2 ^ c % 2 ^ 64 ≡ stride_of c
unfolding stride_of
stride_shift zero h = refl
stride_shift (suc zero) h = refl
stride_shift (suc (suc zero)) h = refl
stride_shift (suc (suc (suc zero))) h = refl
stride_shift (suc (suc (suc (suc c)))) h = absurd (omega arith)

pub turn_le : (c a : ℕ) → turn_of c a ≤ a
unfolding turn_of
turn_le zero a = omega arith
turn_le (suc zero) a = omega arith
turn_le (suc (suc zero)) a = omega arith
turn_le (suc (suc (suc c))) a = omega arith

-- the cell and the half together: what is above the low four bits
pub above : (a : ℕ) → a < 8192 → cell_of a * 2 + hilo_of a ≡ a / 16
unfolding cell_of hilo_of
above a h =
    let e : a / 16 / 2 ≡ a / 32 = div-div-eq-div-mul a 16 2 in
    let l : a / 32 % 256 ≡ a / 32 = mod-eq_of_lt (omega arith) in
    rw (l, ← e) (div-add-mod' (a / 16) 2)

-- the place in two steps: the bank, and the rest
pub at_line : (c a : ℕ) → a < 8192 → at c a ≡ bank_of c a * 512 + a / 16
unfolding at place_of
at_line c a h = omega (arith, above a h)

-- no more than n bits are left, so that the mask of n bits keeps all
kept : (x n : ℕ) → x < 2 ^ n → bit_and x (2 ^ n - 1) ≡ x
kept x n h = and_mask x n ∙ mod-eq_of_lt h

-- the code's table of shifts and masks gives k
pub turn_table : (c a : ℕ) → c < 4 → a < 8192
    → bit_and (a / 2 ^ (get_or {A = ℕ × ℕ} ((5, 0x07) ∷ (5, 0xff) ∷ (6, 0x7f) ∷ (7, 0x3f) ∷ []) c (0, 0)).0)
    (get_or {A = ℕ × ℕ} ((5, 0x07) ∷ (5, 0xff) ∷ (6, 0x7f) ∷ (7, 0x3f) ∷ []) c (0, 0)).1
    ≡ turn_of c a
unfolding turn_of
turn_table zero a h l = and_mask (a / 32) 3
turn_table (suc zero) a h l = kept (a / 32) 8 (omega arith)
turn_table (suc (suc zero)) a h l = kept (a / 64) 7 (omega arith)
turn_table (suc (suc (suc zero))) a h l = kept (a / 128) 6 (omega arith)
turn_table (suc (suc (suc (suc c)))) a h l = absurd (omega arith)

pub column_cells : (c : ℕ) → (c ≡ 0 → ⊥) → 16 ≡ cells_of Vertical c
unfolding cells_of
column_cells zero p = absurd (p refl)
column_cells (suc c) p = refl
