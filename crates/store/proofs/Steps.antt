-- Laws of steps round the store.
use mathlib.Core.Path.{◌≡◌, ◌∙◌}
use Prim.Native.Nat.{ℕ, ◌+◌, ◌*◌, ◌/◌, ◌%◌, ◌<◌}
use native.Mathlib.Omega.{arith}
use native.Mathlib.Nat.{add-mul}
use lib.Bits.{bit_and, and_mask}
use Rattle.store.specs.Inner.Steps.{stepped, paired}

module _ (first step : ℕ) where
  pub stepped_none : first < 8192 → first ≡ stepped first step 0
  unfolding stepped
  stepped_none h = omega arith

  pub stepped_more : (i at : ℕ) → at ≡ stepped first step i → (at + step) % 8192 ≡ stepped first step (i + 1)
  unfolding stepped
  stepped_more i at e =
      let m : (i + 1) * step ≡ i * step + 1 * step = add-mul i 1 step in
      rw (e, m) (omega arith)

  stepped_lt : (i : ℕ) → stepped first step i < 8192
  unfolding stepped
  stepped_lt i = omega arith

-- what a loop by equal steps keeps, with the place at hand and the store's last index as a mask: i of them are behind it
pub record Going (first step last i at : ℕ) : Type 0 where
  pub placed : at ≡ stepped first step i
  pub within : at < 8192
  pub masks : last ≡ 8191

pub going : (first step last : ℕ) → first < 8192 → last ≡ 8191 → Going first step last 0 first
going first step last h e = record { placed = stepped_none first step h; within = h; masks = e }

pub going_on : {first step last i at : ℕ} → Going first step last i at → Going first step last (i + 1) (bit_and (at + step) last)
going_on {first} {step} {last} {i} {at} g =
    let p : bit_and (at + step) last ≡ stepped first step (i + 1) = rw g.masks (and_mask (at + step) 13 ∙ stepped_more first step i at g.placed) in
    record { placed = p; within = rw p (stepped_lt first step (i + 1)); masks = g.masks }

module _ (first : ℕ) where
  pub paired_low : (i : ℕ) → stepped first 514 i ≡ paired first (2 * i)
  unfolding paired
  paired_low i =
      let e : 2 * i / 2 ≡ i = omega arith in
      let f : 2 * i % 2 ≡ 0 = omega arith in
      rw (e, f) (omega arith)

  pub paired_high : (i : ℕ) → stepped first 514 i + 1 ≡ paired first (2 * i + 1)
  unfolding paired
  paired_high i =
      let e : (2 * i + 1) / 2 ≡ i = omega arith in
      let f : (2 * i + 1) % 2 ≡ 1 = omega arith in
      rw (e, f)

  pub high_lt : (i : ℕ) → first % 2 ≡ 0 → stepped first 514 i + 1 < 8192
  unfolding stepped
  high_lt i h = omega arith
