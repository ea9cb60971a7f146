-- Translation is one to one onto the 8,192 coordinates, at every code: `there` and `here` go forth and back, within thirteen bits by
-- `from_lt` and within the store by `at_lt`.
use mathlib.Core.Path.{◌≡◌, refl, sym, ap, ◌∙◌}
use Prim.Native.Nat.{ℕ, zero, suc, ◌+◌, ◌*◌, ◌-◌, ◌/◌, ◌%◌, ◌<◌}
use native.Mathlib.Omega.{arith}
use Rattle.banks.specs.Bank.{hilo_of, cell_of, turn_of, bank_of, place_of, bank_at, cell_at, hilo_at, at, address_of, from_place}

pub bank_lt : (c a : ℕ) → bank_of c a < 16
unfolding bank_of
bank_lt c a = omega arith

pub cell_lt : (a : ℕ) → cell_of a < 256
unfolding cell_of
cell_lt a = omega arith

pub hilo_lt : (a : ℕ) → hilo_of a < 2
unfolding hilo_of
hilo_lt a = omega arith

pub at_lt : (c a : ℕ) → at c a < 8192
unfolding at place_of
at_lt c a = omega (arith, bank_lt c a, cell_lt a, hilo_lt a)

-- the turn is that of the address's cell
pub turn_cell : (c a : ℕ) → turn_of c (a / 32 * 32) ≡ turn_of c a
unfolding turn_of
turn_cell zero a = omega arith
turn_cell (suc zero) a = omega arith
turn_cell (suc (suc zero)) a = omega arith
turn_cell (suc (suc (suc c))) a = omega arith

turn_in : (c k r : ℕ) → r < 32 → turn_of c (k * 32 + r) ≡ turn_of c (k * 32)
unfolding turn_of
turn_in zero k r h = omega arith
turn_in (suc zero) k r h = omega arith
turn_in (suc (suc zero)) k r h = omega arith
turn_in (suc (suc (suc c))) k r h = omega arith

-- a turn of sixteen banks, undone, and done again
unturn : (l t : ℕ) → l < 16 → ((l + t) % 16 + 16 - t % 16) % 16 ≡ l
unturn l t h = omega arith

turn : (b t : ℕ) → b < 16 → ((b + 16 - t % 16) % 16 + t) % 16 ≡ b
turn b t h = omega arith

-- back and forth
pub back : (c a : ℕ) → a < 8192 → address_of c (bank_of c a) (cell_of a) (hilo_of a) ≡ a
unfolding address_of bank_of cell_of hilo_of
back c a h =
    let e : a / 32 % 256 * 32 ≡ a / 32 * 32 = omega arith in
    let f : turn_of c (a / 32 % 256 * 32) ≡ turn_of c a = ap (turn_of c) e ∙ turn_cell c a in
    let g : a % 16 < 16 = omega arith in
    rw (f, unturn (a % 16) (turn_of c a) g) (omega arith)

module _ (c b k h : ℕ) (hb : b < 16) (hk : k < 256) (hh : h < 2) where
  low : ℕ
  low = (b + 16 - turn_of c (k * 32) % 16) % 16

  low_lt : low < 16
  unfolding low
  low_lt = omega arith

  pub address_lt : address_of c b k h < 8192
  unfolding address_of low
  address_lt = omega (arith, low_lt)

  pub forth_cell : cell_of (address_of c b k h) ≡ k
  unfolding address_of cell_of low
  forth_cell = omega (arith, low_lt)

  pub forth_hilo : hilo_of (address_of c b k h) ≡ h
  unfolding address_of hilo_of low
  forth_hilo = omega (arith, low_lt)

  pub forth_bank : bank_of c (address_of c b k h) ≡ b
  unfolding address_of bank_of low
  forth_bank =
      let r : h * 16 + low < 32 = omega (arith, low_lt) in
      let e : k * 32 + h * 16 + low ≡ k * 32 + (h * 16 + low) = omega arith in
      let m : (k * 32 + h * 16 + low) % 16 ≡ low = omega (arith, low_lt) in
      let t : turn_of c (k * 32 + h * 16 + low) ≡ turn_of c (k * 32) = ap (turn_of c) e ∙ turn_in c k (h * 16 + low) r in
      rw (m, t) (turn b (turn_of c (k * 32)) hb)

-- the layout: coordinates to places and back
pub record Coords (b k h p : ℕ) : Type 0 where
  pub place : place_of b k h ≡ p
  pub bank : bank_at p ≡ b
  pub cell : cell_at p ≡ k
  pub hilo : hilo_at p ≡ h

pub coords : (b k h : ℕ) → b < 16 → k < 256 → h < 2 → Coords b k h (place_of b k h)
unfolding place_of bank_at cell_at hilo_at
coords b k h hb hk hh = record { place = refl; bank = omega arith; cell = omega arith; hilo = omega arith }

pub bank_at_lt : (p : ℕ) → p < 8192 → bank_at p < 16
unfolding bank_at
bank_at_lt p h = omega arith

pub cell_at_lt : (p : ℕ) → p < 8192 → cell_at p < 256
unfolding cell_at
cell_at_lt p h = omega arith

pub hilo_at_lt : (p : ℕ) → hilo_at p < 2
unfolding hilo_at
hilo_at_lt p = omega arith

pub place_at : (p : ℕ) → p < 8192 → place_of (bank_at p) (cell_at p) (hilo_at p) ≡ p
unfolding place_of bank_at cell_at hilo_at
place_at p h = omega arith

-- ---- the whole: each address has its place, and each place its address

pub at_coords : (c a : ℕ) → Coords (bank_of c a) (cell_of a) (hilo_of a) (at c a)
unfolding at
at_coords c a = coords (bank_of c a) (cell_of a) (hilo_of a) (bank_lt c a) (cell_lt a) (hilo_lt a)

pub there : (c a : ℕ) → a < 8192 → from_place c (at c a) ≡ a
unfolding from_place
there c a h = let q = at_coords c a in rw (q.bank, q.cell, q.hilo) (back c a h)

pub here : (c p : ℕ) → p < 8192 → at c (from_place c p) ≡ p
unfolding from_place at
here c p h =
    let b = bank_at_lt p h in
    let k = cell_at_lt p h in
    let l = hilo_at_lt p in
    rw (forth_bank c _ _ _ b k l, forth_cell c _ _ _ b k l, forth_hilo c _ _ _ b k l) (place_at p h)

pub from_lt : (c p : ℕ) → p < 8192 → from_place c p < 8192
unfolding from_place
from_lt c p h = address_lt c _ _ _ (bank_at_lt p h) (cell_at_lt p h) (hilo_at_lt p)

pub one_to_one : (c a b : ℕ) → a < 8192 → b < 8192 → at c a ≡ at c b → a ≡ b
one_to_one c a b ha hb e = sym (there c a ha) ∙ ap (from_place c) e ∙ there c b hb
