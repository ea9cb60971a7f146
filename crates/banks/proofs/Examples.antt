-- Document 01's worked examples 1 to 3: translation.
use mathlib.Core.Path.{◌≡◌, refl}
use mathlib.Core.List.{List, [], ◌∷◌, map}
use Prim.Native.Nat.{ℕ}
use Rattle.banks.specs.Bank.{cell_of, hilo_of, bank_of, turn_of, pair_of}
use Rattle.banks.specs.Line.{line, addresses, start_of, step_of, column_start, stride_of, distinct}
use Rattle.terms.specs.declared.Way.TheVariants.{Vertical}

pub banks_of : ℕ → List ℕ
banks_of a = bank_of 0 a ∷ bank_of 1 a ∷ bank_of 2 a ∷ bank_of 3 a ∷ []

pub one : (cell_of 0x0123 ≡ 9) × (hilo_of 0x0123 ≡ 0) × (banks_of 0x0123 ≡ 4 ∷ 12 ∷ 7 ∷ 5 ∷ [])
unfolding cell_of hilo_of bank_of turn_of banks_of
one = (refl, refl, refl)

pub two : (cell_of 0x1fff ≡ 255) × (hilo_of 0x1fff ≡ 1) × (banks_of 0x1fff ≡ 6 ∷ 14 ∷ 14 ∷ 14 ∷ [])
unfolding cell_of hilo_of bank_of turn_of banks_of
two = (refl, refl, refl)

pub three : (map (bank_of 0) (addresses Vertical 0 0x0005) ≡ 5 ∷ 5 ∷ 6 ∷ 6 ∷ 7 ∷ 7 ∷ 8 ∷ 8 ∷ 9 ∷ 9 ∷ 10 ∷ 10 ∷ 11 ∷ 11 ∷ 12 ∷ 12 ∷ [])
    × (distinct (map (pair_of 0) (addresses Vertical 0 0x0005)) ≡ 8)
unfolding bank_of turn_of addresses start_of step_of line column_start stride_of pair_of cell_of
three = (refl, refl)
