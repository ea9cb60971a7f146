-- "A side input that the instruction doesn't use is ignored, whatever it holds": document 01, "Answer numbers".
use mathlib.Core.Path.{◌≡◌, refl, sym, ap, ◌∙◌}
use Prim.Native.Nat.{ℕ, zero, suc, ◌+◌, ◌-◌, ◌≤◌}
use native.Mathlib.Omega.{arith}
use native.Mathlib.Nat.{add-zero, add-suc, suc-add}
use mathlib.Core.Bool.{Bool, true, false, cond}
use mathlib.Core.List.{List, [], ◌∷◌}
use borrow.Author.Tests.{ltb-false}
use lib.Dec.{ltb}
use lib.ListN.{get_or}
use Rattle.words.specs.Fields.{fields_of}
use Rattle.words.specs.Table.{decode_of, decode_at, rows, none}
use Rattle.words.specs.declared.Fields.{Fields}
use Rattle.terms.specs.declared.Refusal.TheVariants.{Foreign}
use Rattle.words.specs.Decoded.{Decoded}
use Rattle.words.specs.Decoded as D
use Rattle.pieces.specs.State.{State}
use Rattle.model.specs.Step.{by_decoded, triple_of}
use Rattle.model.specs.Claims.{sided, masked}

module _ (t : ℕ → Bool) where
  -- the first list where the test holds of the row's number, else the second
  abbrev mixed : ℕ → List Decoded → List Decoded → List Decoded
  mixed j [] ys = ys
  mixed j (x ∷ xs) [] = []
  mixed j (x ∷ xs) (y ∷ ys) = cond (t j) x y ∷ mixed (suc j) xs ys

  mixed_at : (xs ys : List Decoded) (j k : ℕ) → t (j + k) ≡ false → get_or (mixed j xs ys) k none ≡ get_or ys k none
  mixed_at [] ys j k e = refl
  mixed_at (x ∷ xs) [] j k e = refl
  mixed_at (x ∷ xs) (y ∷ ys) j zero e = let f : t j ≡ false = rw add-zero at e in rw f
  mixed_at (x ∷ xs) (y ∷ ys) j (suc k) e = mixed_at xs ys (suc j) k (ap t (suc-add j k ∙ sym (add-suc j k)) ∙ e)

  -- two tables that differ only where the test holds decode alike where it does not
  alike : (f : Fields) (side side' mask mask' op : ℕ) → mixed 0x80 (rows f side mask) (rows f side' mask') ≡ rows f side mask → t op ≡ false
      → decode_at op f side mask ≡ decode_at op f side' mask'
  unfolding decode_at
  alike f side side' mask mask' op e h = go (ltb op 0x80) (ltb-false op 0x80)
    where
      row : 0x80 ≤ op → get_or (rows f side mask) (op - 0x80) none ≡ get_or (rows f side' mask') (op - 0x80) none
      row l =
          let q : 0x80 + (op - 0x80) ≡ op = omega arith in
          ap (λ (ds : List Decoded). get_or ds (op - 0x80) none) (sym e)
          ∙ mixed_at (rows f side mask) (rows f side' mask') 0x80 (op - 0x80) (ap t q ∙ h)

      go : (b : Bool) → (b ≡ false → 0x80 ≤ op)
          → cond b (D.Refused Foreign) (cond (ltb 0xdf op) (D.Refused Foreign) (get_or (rows f side mask) (op - 0x80) none))
          ≡ cond b (D.Refused Foreign) (cond (ltb 0xdf op) (D.Refused Foreign) (get_or (rows f side' mask') (op - 0x80) none))
      go true l = refl
      go false l = ap (λ (d : Decoded). cond (ltb 0xdf op) (D.Refused Foreign) d) (row (l refl))

-- an instruction that does not use SRC2S is the same for every side index
pub side_ignored : (word side side' mask : ℕ) → sided (fields_of word).op ≡ false → decode_of word side mask ≡ decode_of word side' mask
unfolding decode_of rows
side_ignored word side side' mask h = alike sided (fields_of word) side side' mask mask (fields_of word).op refl h

-- one that is not vcmpad is the same for every side mask word
pub mask_ignored : (word side mask mask' : ℕ) → masked (fields_of word).op ≡ false → decode_of word side mask ≡ decode_of word side mask'
unfolding decode_of rows
mask_ignored word side mask mask' h = alike masked (fields_of word) side side mask mask' (fields_of word).op refl h

-- so is what its triple does
pub triple_ignored : (word side side' mask mask' : ℕ) (s : State) → sided (fields_of word).op ≡ false → masked (fields_of word).op ≡ false
    → triple_of word side mask s ≡ triple_of word side' mask' s
unfolding triple_of
triple_ignored word side side' mask mask' s h g =
    ap (λ (d : Decoded). by_decoded d s) (side_ignored word side side' mask h ∙ mask_ignored word side' mask mask' g)
