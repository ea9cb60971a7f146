-- A refused step leaves the state and counts nothing, and each number is given exactly where the lengths or the decoded word ask for it.
use mathlib.Core.Path.{◌≡◌, refl, ap, ◌∙◌, subst}
use mathlib.Core.Logic.{◌↔◌}
use Prim.Native.Nat.{ℕ, ◌≤◌, zero-le}
use native.Mathlib.Omega.{arith}
use mathlib.Core.Bool.{Bool, true, false, cond}
use Rattle.terms.specs.Counts.{none}
use Rattle.terms.proofs.Inverse.{refused_inj}
use Rattle.words.specs.Table.{decode_of}
use Rattle.terms.specs.declared.Refusal.{Refusal}
use Rattle.terms.specs.declared.Refusal.TheVariants.{Foreign, Undocumented, SideIndex, SideMask}
use Rattle.words.specs.Decoded.{Decoded}
use Rattle.words.specs.Decoded as D
use Rattle.pieces.specs.State.{State, Sized, sized_of}
use Rattle.pieces.proofs.Right.{sized_if, sized_only}
use Rattle.model.specs.Step.{Outcome, outcome, refusal, by_decoded, triple_of, step_of}

-- ---- a refused step leaves the state

refused_decoded : (d : Decoded) (s : State) → ((by_decoded d s).number ≡ 0 → ⊥) → by_decoded d s ≡ outcome (by_decoded d s).number none s
refused_decoded (D.Insn i) s h = absurd (h refl)
refused_decoded (D.Refused k) s h = refl

-- a triple that is refused changes nothing and counts nothing
pub refused_triple : (word side mask : ℕ) (s : State) → ((triple_of word side mask s).number ≡ 0 → ⊥)
    → triple_of word side mask s ≡ outcome (triple_of word side mask s).number none s
unfolding triple_of
refused_triple word side mask s h = refused_decoded (decode_of word side mask) s h

-- so does the single call that is refused, for whatever reason
pub refused : (word side mask : ℕ) (s : State) → ((step_of word side mask s).number ≡ 0 → ⊥)
    → step_of word side mask s ≡ outcome (step_of word side mask s).number none s
unfolding step_of
refused word side mask s = go (sized_of s)
  where
    go : (b : Bool) → ((cond b (triple_of word side mask s) (outcome 5 none s)).number ≡ 0 → ⊥)
        → cond b (triple_of word side mask s) (outcome 5 none s) ≡ outcome (cond b (triple_of word side mask s) (outcome 5 none s)).number none s
    go true h = refused_triple word side mask s h
    go false h = refl

-- the state after a refused call is the state before it
pub refused_after : (word side mask : ℕ) (s : State) → ((step_of word side mask s).number ≡ 0 → ⊥) → (step_of word side mask s).after ≡ s
refused_after word side mask s h = ap (λ (o : Outcome). o.after) (refused word side mask s h)

-- a refused call counts nothing
pub refused_counts : (word side mask : ℕ) (s : State) → ((step_of word side mask s).number ≡ 0 → ⊥) → (step_of word side mask s).counts ≡ none
refused_counts word side mask s h = ap (λ (o : Outcome). o.counts) (refused word side mask s h)

-- ---- the numbers by what the word decodes to

-- the refusals of a triple have the numbers 1 to 4
pub refusal_range : (k : Refusal) → (1 ≤ refusal k) × (refusal k ≤ 4)
refusal_range Foreign = omega arith
refusal_range Undocumented = omega arith
refusal_range SideIndex = omega arith
refusal_range SideMask = omega arith

-- no triple gives 5 or more
pub triple_number_le : (word side mask : ℕ) (s : State) → (triple_of word side mask s).number ≤ 4
unfolding triple_of
triple_number_le word side mask s = go (decode_of word side mask)
  where
    go : (d : Decoded) → (by_decoded d s).number ≤ 4
    go (D.Insn i) = zero-le
    go (D.Refused k) = (refusal_range k).1

decoded_refusal : (d : Decoded) (k : Refusal) (s : State) → (by_decoded d s).number ≡ refusal k → d ≡ D.Refused k
decoded_refusal (D.Insn i) k s e = absurd (omega (arith, refusal_range k))
decoded_refusal (D.Refused j) k s e = ap D.Refused (refused_inj j k e)

module _ (word side mask : ℕ) (s : State) where
  -- on pieces of right lengths the single call is the triple
  pub step_sized : Sized s → step_of word side mask s ≡ triple_of word side mask s
  unfolding step_of
  step_sized h = rw (sized_only s h)

  -- 5 is given exactly where a piece has another length
  pub five_iff : ((step_of word side mask s).number ≡ 5) ↔ (Sized s → ⊥)
  unfolding step_of
  five_iff = (λ e h. omega (arith, triple_number_le word side mask s, subst (λ (o : Outcome). o.number ≡ 5) (step_sized h) e), λ h. go (sized_of s) (sized_if s) h)
    where
      go : (b : Bool) → (b ≡ true → Sized s) → (Sized s → ⊥) → (cond b (triple_of word side mask s) (outcome 5 none s)).number ≡ 5
      go true f h = absurd (h (f refl))
      go false f h = refl

  -- 1, 2, 3 and 4 exactly where the lengths are right and the word decodes to that refusal
  pub refusal_iff : (k : Refusal) → ((step_of word side mask s).number ≡ refusal k) ↔ (Sized s × (decode_of word side mask ≡ D.Refused k))
  unfolding step_of triple_of
  refusal_iff k = (go (sized_of s) (sized_if s), λ h. ap (λ (o : Outcome). o.number) (step_sized h.0) ∙ ap (λ (d : Decoded). (by_decoded d s).number) h.1)
    where
      go : (b : Bool) → (b ≡ true → Sized s) → (cond b (triple_of word side mask s) (outcome 5 none s)).number ≡ refusal k
          → Sized s × (decode_of word side mask ≡ D.Refused k)
      go true f e = (f refl, decoded_refusal (decode_of word side mask) k s e)
      go false f e = absurd (omega (arith, refusal_range k))

  -- on pieces of right lengths a call that is not done is refused by one of them
  pub refused_as : Sized s → ((step_of word side mask s).number ≡ 0 → ⊥) → (k : Refusal) × ((step_of word side mask s).number ≡ refusal k)
  unfolding triple_of
  refused_as z h = rw (step_sized z) (go (decode_of word side mask) (rw (step_sized z) at h))
    where
      go : (d : Decoded) → ((by_decoded d s).number ≡ 0 → ⊥) → (k : Refusal) × ((by_decoded d s).number ≡ refusal k)
      go (D.Insn i) f = absurd (f refl)
      go (D.Refused k) f = (k, refl)
