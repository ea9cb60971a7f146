-- Which opcodes count clipped components, of a call from its word: no triple with another opcode does.
use mathlib.Core.Path.{◌≡◌, refl, sym, ap, ◌∙◌}
use Prim.Native.Nat.{ℕ, ◌+◌, ◌-◌, ◌≤◌}
use native.Mathlib.Omega.{arith}
use mathlib.Core.Bool.{Bool, true, false, cond}
use mathlib.Core.List.{List, [], ◌∷◌, map}
use borrow.Author.Tests.{ltb-false}
use lib.Dec.{ltb}
use lib.ListN.{get_or, get_or-map}
use Rattle.banks.specs.Line.{from, has}
use Rattle.words.specs.Fields.{fields_of}
use Rattle.words.specs.Table.{decode_of, decode_at, rows, none}
use Rattle.words.specs.declared.Fields.{Fields}
use Rattle.terms.specs.Counts as K
use Rattle.terms.specs.declared.Refusal.TheVariants.{Foreign}
use Rattle.words.specs.Decoded.{Decoded}
use Rattle.words.specs.Decoded as D
use Rattle.pieces.specs.State.{State, sized_of}
use Rattle.model.specs.Step.{outcome, by_decoded, triple_of, step_of}
use Rattle.model.proofs.Clipped.{telling, clipped_none}
use Rattle.model.proofs.Numbers.{from_at}

-- vabs, vneg, vadd and vsub signed; vabs, vadd and vsub unsigned; vadd9; vadd signed, vadd and vsub unsigned with BIMM
abbrev pub telling_ops : List ℕ
telling_ops = 0x8a ∷ 0x8b ∷ 0x8c ∷ 0x8d ∷ 0x9a ∷ 0x9c ∷ 0x9d ∷ 0x9f ∷ 0xac ∷ 0xbc ∷ 0xbd ∷ []

abbrev tells_at : ℕ → ℕ
tells_at op = cond (has op telling_ops) 1 0

-- whether a row of the table is an instruction that tells
abbrev tells_in : Decoded → ℕ
tells_in (D.Insn i) = cond (telling i) 1 0
tells_in (D.Refused k) = 0

-- the table's 96 rows say so
table : (f : Fields) (side mask : ℕ) (i m : Bool) → ltb side 32 ≡ i → ltb mask 131072 ≡ m → map tells_in (rows f side mask) ≡ map tells_at (from 0x80 96)
unfolding rows
table f side mask true true e g = rw (e, g)
table f side mask true false e g = rw (e, g)
table f side mask false true e g = rw (e, g)
table f side mask false false e g = rw (e, g)

module _ (f : Fields) (side mask : ℕ) where
  row_tells : (op : ℕ) → 0x80 ≤ op → op ≤ 0xdf → tells_in (get_or (rows f side mask) (op - 0x80) none) ≡ tells_at op
  row_tells op l u =
      let e : 0x80 + (op - 0x80) ≡ op = omega arith in
      sym (get_or-map tells_in (rows f side mask) (op - 0x80) none)
      ∙ ap (λ (ns : List ℕ). get_or ns (op - 0x80) 0) (table f side mask (ltb side 32) (ltb mask 131072) refl refl)
      ∙ from_at tells_at 0 0x80 96 (op - 0x80) (omega arith)
      ∙ ap tells_at e

  decoded_quiet : (op : ℕ) → has op telling_ops ≡ false → tells_in (decode_at op f side mask) ≡ 0
  unfolding decode_at
  decoded_quiet op q = go (ltb op 0x80) (ltb 0xdf op) (ltb-false op 0x80) (ltb-false 0xdf op)
    where
      go : (b c : Bool) → (b ≡ false → 0x80 ≤ op) → (c ≡ false → op ≤ 0xdf)
          → tells_in (cond b (D.Refused Foreign) (cond c (D.Refused Foreign) (get_or (rows f side mask) (op - 0x80) none))) ≡ 0
      go true c l u = refl
      go false true l u = refl
      go false false l u = row_tells op (l refl) (u refl) ∙ rw q refl

off : (t : Bool) → ◌≡◌ {A = ℕ} (cond t 1 0) 0 → t ≡ false
off true e = let z : ⊥ = omega (arith, e) in absurd z
off false e = refl

quiet_decoded : (d : Decoded) (s : State) → tells_in d ≡ 0 → (by_decoded d s).counts.clipped ≡ 0
quiet_decoded (D.Insn i) s e = clipped_none i s (off (telling i) e)
quiet_decoded (D.Refused k) s e = refl

-- "vclip, shifts and all others count 0"
pub others_none : (word side mask : ℕ) (s : State) → has (fields_of word).op telling_ops ≡ false → (step_of word side mask s).counts.clipped ≡ 0
unfolding step_of triple_of decode_of
others_none word side mask s q = go (sized_of s)
  where
    go : (b : Bool) → (cond b (triple_of word side mask s) (outcome 5 K.none s)).counts.clipped ≡ 0
    go true = quiet_decoded (decode_of word side mask) s (decoded_quiet (fields_of word) side mask (fields_of word).op q)
    go false = refl
