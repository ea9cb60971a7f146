-- The normal form of a word does what the word does and touches the same places. One exception: a vcmpad that writes no flags may read other signs,
-- in vain.
use mathlib.Core.Path.{◌≡◌, refl, sym, ap, ◌∙◌}
use Prim.Native.Nat.{ℕ, ◌%◌, ◌<◌}
use native.Mathlib.Omega.{arith}
use mathlib.Core.Bool.{Bool, true, false, ◌&&◌}
use mathlib.Core.List.{List, [], ◌∷◌}
use mathlib.Core.Logic.{◌⊎◌, inl, inr}
use borrow.Author.Tests.{ltb-true, ltb-false, lt-ltb, le-ltb, eqb-true}
use lib.Bits.{bit_or}
use lib.Dec.{ltb, eqb}
use lib.ListN.{get_or}
use Rattle.terms.specs.Answers as T
use Rattle.terms.specs.Counts.{none}
use Rattle.terms.specs.declared.Refusal.{Refusal}
use Rattle.terms.specs.declared.End.TheVariants as E
use Rattle.words.specs.Decoded.{Decoded}
use Rattle.words.specs.Decoded as D
use Rattle.words.specs.Fields.{fields_of}
use Rattle.words.specs.Table.{rows, decode_at, decode_of}
use Rattle.pieces.specs.State.{State}
use Rattle.pieces.specs.Place.{Place, vec, signs, xlat}
use Rattle.pieces.proofs.Right.{clash}
use Rattle.terms.proofs.Sums.{and_true}
use Rattle.model.specs.Prog.{run, puts, Done}
use Rattle.model.specs.Step.{sem, stepped, counted, Outcome, outcome, refusal, by_decoded, triple_of, step_of}
use Rattle.model.specs.Table.{reads, writes}
use Rattle.model.specs.Number.{number, reads_of, writes_of}
use Rattle.model.specs.Swap.{verdict_of, places_decoded, places_of, swap_decoded, swap_of}
use Rattle.model.proofs.Ignored.{mask_ignored}
use Rattle.names.specs.Table.{op_of, normal_of}
use Rattle.vp1_names.proofs.Normal.{keep, op_same, decoded_as, decode_own, decode_normal, Blind, of_cond, same_answer}

-- ---- what it does

-- what a word comes to: its refusal, or what it writes and counts
abbrev given : State → Decoded → Refusal ⊎ Done
given s (D.Insn i) = inr (run xlat (sem i) s)
given s (D.Refused k) = inl k

abbrev outcome_of : State → Refusal ⊎ Done → Outcome
outcome_of s (inl k) = outcome (refusal k) none s
outcome_of s (inr d) = outcome (T.number E.Done) d.counts (puts xlat d.writes s)

by_given : (s : State) (d : Decoded) → by_decoded d s ≡ outcome_of s (given s d)
unfolding stepped counted
by_given s (D.Insn i) = refl
by_given s (D.Refused k) = refl

-- by cases of vcmpad's input, which it reads even where it writes nothing
given_rows : (s : State) (side mask : ℕ) (b : Bool) → ltb mask 65536 ≡ b → Blind (given s) side mask
unfolding rows
given_rows s side mask true e f x a = simp (of_cond (given s), e, a)
given_rows s side mask false e f x a = simp (of_cond (given s), e, a)

pub same_triple : (w side mask : ℕ) (s : State) → triple_of (normal_of w) side mask s ≡ triple_of w side mask s
unfolding triple_of
same_triple w side mask s =
    by_given s (decode_of (normal_of w) side mask)
    ∙ ap (outcome_of s) (same_answer (given s) side mask w (given_rows s side mask (ltb mask 65536) refl))
    ∙ sym (by_given s (decode_of w side mask))

pub same_step : (w side mask : ℕ) (s : State) → step_of (normal_of w) side mask s ≡ step_of w side mask s
unfolding step_of
same_step w side mask s = rw (same_triple w side mask s)

-- ---- what it touches

-- the places that a word reads, and those that it writes: none where it is refused
abbrev pub reads_in : State → Decoded → List Place
reads_in s (D.Insn i) = reads xlat i s
reads_in s (D.Refused k) = []

abbrev pub writes_in : State → Decoded → List Place
writes_in s (D.Insn i) = writes xlat i s
writes_in s (D.Refused k) = []

writes_rows : (s : State) (side mask : ℕ) → Blind (writes_in s) side mask
unfolding rows
writes_rows s side mask f x a = simp (of_cond (writes_in s), a)

pub same_writes : (w side mask : ℕ) (s : State)
    → writes_in s (decode_of (normal_of w) side mask) ≡ writes_in s (decode_of w side mask)
same_writes w side mask s = same_answer (writes_in s) side mask w (writes_rows s side mask)

-- a vcmpad with VCDST 4, 5 or 6 and no valid side mask: its input is the signs of $vc[VCDST mod 4], that of its normal form those of $vc3
abbrev pub moved : ℕ → ℕ → Bool
moved w mask = eqb (op_of w) 0x8f && (ltb 3 (w % 8) && (ltb (w % 8) 7 && ltb mask 65536))

-- an answer that goes by the number of an absent flags register only where vcmpad's input is signs
module _ {Y : Type 0} (h : Decoded → Y) (side : ℕ) (blind : (m : ℕ) → ltb m 65536 ≡ false → Blind h side m) (w mask : ℕ) where
  abbrev Same : Type 0
  Same = h (decode_of (normal_of w) side mask) ≡ h (decode_of w side mask)

  -- another instruction decodes alike under a valid mask
  unmasked : eqb (op_of w) 0x8f ≡ false → Same
  unfolding fields_of
  unmasked e =
      ap h (mask_ignored (normal_of w) side mask 65536 (ap (λ (op : ℕ). eqb op 0x8f) (op_same w) ∙ e))
      ∙ same_answer h side 65536 w (blind 65536 refl)
      ∙ ap h (sym (mask_ignored w side mask 65536 e))

  kept : keep (w % 8) ≡ w % 8 → Same
  kept e = ap h (decode_normal w side mask ∙ ap (decoded_as w side mask) e ∙ sym (decode_own w side mask))

  unmoved : moved w mask ≡ false → Same
  unmoved = go (eqb (op_of w) 0x8f) (ltb 3 (w % 8)) (ltb (w % 8) 7) (ltb mask 65536) refl refl refl refl
    where
      go : (c l u m : Bool) → eqb (op_of w) 0x8f ≡ c → ltb 3 (w % 8) ≡ l → ltb (w % 8) 7 ≡ u → ltb mask 65536 ≡ m
          → c && (l && (u && m)) ≡ false → Same
      go false l u m e p q r n = unmasked e
      go true false u m e p q r n = kept (rw (lt-ltb (w % 8) 4 (omega (arith, ltb-false 3 (w % 8) p))))
      go true true false m e p q r n = let x : w % 8 ≡ 7 = omega (arith, ltb-false (w % 8) 7 q) in kept (rw x)
      go true true true false e p q r n = same_answer h side mask w (blind mask r)
      go true true true true e p q r n = absurd (clash (sym n))

reads_rows : (s : State) (side mask : ℕ) → ltb mask 65536 ≡ false → Blind (reads_in s) side mask
unfolding rows
reads_rows s side mask e f x a = simp (of_cond (reads_in s), e)

pub same_reads : (w side mask : ℕ) (s : State) → moved w mask ≡ false
    → reads_in s (decode_of (normal_of w) side mask) ≡ reads_in s (decode_of w side mask)
same_reads w side mask s = unmoved (reads_in s) side (reads_rows s side) w mask

-- ---- the exception, exactly

-- a vcmpad's registers, and the signs of $vc[n]
abbrev pub with_signs : ℕ → ℕ → List Place
with_signs w n = vec (fields_of w).src1 ∷ vec (bit_or (fields_of w).src1 1) ∷ vec (fields_of w).src2 ∷ signs n ∷ []

low_two : (w : ℕ) → w % 8 % 4 ≡ w % 4
low_two w = omega arith

module _ (w side mask : ℕ) (s : State) (h : moved w mask ≡ true) where
  parts : (op_of w ≡ 0x8f) × (3 < w % 8) × (w % 8 < 7) × (mask < 65536)
  parts =
      let p = and_true (eqb (op_of w) 0x8f) _ h in
      let q = and_true (ltb 3 (w % 8)) _ p.1 in
      let r = and_true (ltb (w % 8) 7) _ q.1 in
      (eqb-true _ _ p.0, ltb-true _ _ q.0, ltb-true _ _ r.0, ltb-true _ _ r.1)

  reads_as : (x : ℕ) → reads_in s (decoded_as w side mask x) ≡ with_signs w (x % 4)
  unfolding decode_at rows
  reads_as x = rw (parts.0, lt-ltb mask 131072 (omega (arith, parts.3)), lt-ltb mask 65536 parts.3)

  pub moved_reads : (reads_in s (decode_of w side mask) ≡ with_signs w (w % 4)) × (reads_in s (decode_of (normal_of w) side mask) ≡ with_signs w 3)
  moved_reads = (
    ap (reads_in s) (decode_own w side mask) ∙ reads_as (w % 8) ∙ ap (with_signs w) (low_two w),
    ap (reads_in s) (decode_normal w side mask) ∙ rw (le-ltb (w % 8) 4 parts.1) (reads_as 7),
  )

  pub moved_differ : reads_in s (decode_of (normal_of w) side mask) ≡ reads_in s (decode_of w side mask) → ⊥
  moved_differ e =
      let last : List Place → ℕ = λ ps. number (get_or ps 3 (vec 0)) in
      let q : last (with_signs w 3) ≡ last (with_signs w (w % 4)) = ap last (sym moved_reads.1 ∙ e ∙ moved_reads.0) in
      never (w % 8) parts.1 parts.2 (low_two w ∙ omega arith)
    where
      never : (x : ℕ) → 3 < x → x < 7 → x % 4 ≡ 3 → ⊥
      never x l u z = omega arith

-- ---- the answers of the calls places and may_swap

module _ (s : State) (side mask : ℕ) (e : ltb mask 65536 ≡ false) where
  places_rows : (b : List ℕ) → Blind (λ d. places_decoded d s b) side mask
  unfolding rows reads_of writes_of
  places_rows b f x a = simp (of_cond (λ d. places_decoded d s b), e, a)

  first_rows : (c : Decoded) → Blind (λ d. swap_decoded d c s) side mask
  unfolding rows reads_of writes_of verdict_of
  first_rows (D.Insn i) f x a = simp (of_cond (λ d. swap_decoded d (D.Insn i) s), e, a)
  first_rows (D.Refused k) f x a = simp (of_cond (λ d. swap_decoded d (D.Refused k) s), e)

  second_rows : (c : Decoded) → Blind (λ d. swap_decoded c d s) side mask
  unfolding rows reads_of writes_of verdict_of
  second_rows (D.Insn i) f x a = simp (of_cond (λ d. swap_decoded (D.Insn i) d s), e, a)
  second_rows (D.Refused k) f x a = simp (of_cond (λ d. swap_decoded (D.Refused k) d s))

pub same_places : (w side mask : ℕ) (s : State) (b : List ℕ) → moved w mask ≡ false
    → places_of (normal_of w) side mask s b ≡ places_of w side mask s b
unfolding places_of
same_places w side mask s b h = rw (unmoved (λ d. places_decoded d s b) side (λ m e. places_rows s side m e b) w mask h)

pub same_swap : (w side mask w' side' mask' : ℕ) (s : State) → moved w mask ≡ false → moved w' mask' ≡ false
    → swap_of (normal_of w) side mask (normal_of w') side' mask' s ≡ swap_of w side mask w' side' mask' s
unfolding swap_of
same_swap w side mask w' side' mask' s h h' =
    let c : Decoded = decode_of w side mask in
    let c' : Decoded = decode_of (normal_of w') side' mask' in
    rw (
      unmoved (λ d. swap_decoded d c' s) side (λ m e. first_rows s side m e c') w mask h,
      unmoved (λ d. swap_decoded c d s) side' (λ m e. second_rows s side' m e c) w' mask' h',
    )
