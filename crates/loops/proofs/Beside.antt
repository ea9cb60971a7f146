-- Results whose sign flags stand beside the bytes: where the sign flag tells what is clipped, and where nothing is.
use mathlib.Core.Path.{◌≡◌, refl, sym, ◌∙◌}
use mathlib.Core.Bool.{false, cond}
use mathlib.Core.List.{List}
use Prim.Native.Nat.{ℕ}
use Rattle.lane.specs.Lane.{Lane}
use Rattle.lanes.specs.declared.Unpacked.{Unpacked}
use Rattle.lanes.specs.Lanes.{listed}
use Rattle.lanes.specs.Inner.Unpacked.{unpacked_of, sign_beside, tally_of}
use Rattle.lanes.proofs.Counting.{tallied, many_same}
use Rattle.lanes.proofs.Unpacking.{made, untold}

module _ (l : ℕ → Lane) {bs ss : List ℕ} where
  pub told_beside : {n : ℕ} → ((i : ℕ) → (l i).clipped ≡ (l i).sign) → bs ≡ listed 16 (λ i. (l i).byte) → ss ≡ listed 16 (λ i. cond (l i).sign 255 0) → n ≡ tally_of ss
      → ◌≡◌ {A = Unpacked} (record { bytes = bs; tested = bs; tops = ss; clipped = n }) (unpacked_of (λ i. sign_beside (l i)))
  told_beside t e s k = made (λ i. sign_beside (l i)) e e s (k ∙ tallied 255 refl _ s ∙ many_same 16 _ _ (λ i h. sym (t i)))

  pub untold_beside : ((i : ℕ) → (l i).clipped ≡ false) → bs ≡ listed 16 (λ i. (l i).byte) → ss ≡ listed 16 (λ i. cond (l i).sign 255 0)
      → ◌≡◌ {A = Unpacked} (record { bytes = bs; tested = bs; tops = ss; clipped = 0 }) (unpacked_of (λ i. sign_beside (l i)))
  untold_beside t e s = untold (λ i. sign_beside (l i)) e e s t
