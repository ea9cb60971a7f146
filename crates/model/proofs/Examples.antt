-- Document 01's worked examples 4 to 10 and document 02's of wishes 1 and 4, from instruction words.
use mathlib.Core.Path.{◌≡◌, refl, ap, ◌∙◌}
use Prim.Native.Nat.{ℕ, ◌+◌, ◌*◌, ◌/◌, ◌%◌, ◌<◌}
use native.Mathlib.Omega.{arith}
use mathlib.Core.List.{List, [], ◌∷◌, ◌++◌}
use lib.Dec.{lit<}
use lib.ListN.{length, take, replicate, length-replicate, length-append}
use lib.Seq.{sets}
use Rattle.banks.specs.Bank.{pair_of, bank_of, turn_of, cell_of}
use Rattle.banks.specs.Line.{line, row_start, start_of, addresses}
use Rattle.banks.specs.Line as L
use Rattle.terms.specs.declared.Way.TheVariants.{Horizontal}
use Rattle.signed.specs.Signed.{sext, widen, low, clip, shifted}
use Rattle.lane.specs.Lane.{outside, saturated, result, arith_lane, shift_lane, clip_between, clip_lane, add9_lane}
use Rattle.lanes.specs.Lanes.{lanes_of, listed, flags, how_many, arith_lanes, shift_lanes, clip_lanes, add9_lanes}
use Rattle.words.specs.Fields.{fields_of}
use Rattle.words.specs.Table.{decode_of, decode_at, rows}
use Rattle.pieces.specs.State.{State, Sized, state}
use Rattle.pieces.specs.Place.{xlat}
use Rattle.model.specs.Address.{span}
use Rattle.terms.specs.Counts.{counts, none}
use Rattle.model.specs.Step.{stepped, counted, outcome, by_decoded, triple_of, step_of}
use Rattle.model.proofs.Laws.{gathered}
use Rattle.model.proofs.Refused.{step_sized}

module _ (ds rest r cs vc v : List ℕ) (c : ℕ) where
  -- 4: aadd of 2, in $a1, to 0x0010ffff, in $a0, gives 0x00100001 and end 0 in $c0, whose other bits stay
  pub example4 : (mask : ℕ)
      → triple_of 0xca000000 1 mask (state ds (0x0010ffff ∷ 2 ∷ rest) r (c ∷ cs) vc v)
      ≡ outcome 0 none (state ds (0x00100001 ∷ 2 ∷ rest) r ((c / 2048 * 2048 + 0 + c % 1024) ∷ cs) vc v)
  unfolding triple_of decode_of decode_at rows fields_of stepped counted
  example4 mask = refl

  -- 5: ldvh by $a0 with addr 0x10, limit 0x20 and UIMM 0x10 loads from the address 0x10 and gives end 1
  pub example5 : (side mask : ℕ)
      → triple_of 0xd8000080 side mask (state ds (0x00200010 ∷ rest) r (c ∷ cs) vc v)
      ≡ outcome 0 (counts 16 0) (state ds (0x00200010 ∷ rest) r ((c / 2048 * 2048 + 1024 + c % 1024) ∷ cs) vc
      (sets v 0 (take 16 (gathered xlat ds (span Horizontal 0 0x10)))))
  unfolding triple_of decode_of decode_at rows fields_of stepped counted addresses line start_of L.step_of row_start pair_of bank_of turn_of cell_of
  example5 side mask = refl

-- ---- 6 to 9 and wish 1, in all sixteen components: from $v0 and $v1 to $v2, with the flags in $vc0

abbrev pub all : ℕ → List ℕ
all x = replicate 16 x

abbrev pub nine : List ℕ
nine = 0xf0 ∷ 1 ∷ 0xf0 ∷ 1 ∷ 0xf0 ∷ 1 ∷ 0xf0 ∷ 1 ∷ 0xf0 ∷ 1 ∷ 0xf0 ∷ 1 ∷ 0xf0 ∷ 1 ∷ 0xf0 ∷ 1 ∷ []

module _ (ds a r c vc v : List ℕ) (old was : ℕ) where
  abbrev pub before : List ℕ → List ℕ → State
  before xs ys = state ds a r c (was ∷ vc) (xs ++ (ys ++ (all old ++ v)))

  -- the byte in each component of $v2, the sign and the zero flags
  abbrev pub leaves : List ℕ → List ℕ → ℕ → ℕ → ℕ → State
  leaves xs ys byte signs zeros = state ds a r c ((zeros * 65536 + signs) ∷ vc) (xs ++ (ys ++ (all byte ++ v)))

  module _ (side mask : ℕ) where
    -- on pieces of right lengths the single call for the word does so, whatever its side inputs
    pub record Gives (word : ℕ) (xs ys : List ℕ) (byte signs zeros clipped : ℕ) : Type 0 where
      pub gives : Sized (before xs ys) → step_of word side mask (before xs ys) ≡ outcome 0 (counts 0 clipped) (leaves xs ys byte signs zeros)

    -- from what the word's triple writes: first the signs, then the zeros
    worked : {word : ℕ} {xs ys : List ℕ} {byte signs zeros clipped : ℕ} → signs < 65536
        → triple_of word side mask (before xs ys)
        ≡ outcome 0 (counts 0 clipped) (state ds a r c ((zeros * 65536 + (was / 65536 * 65536 + signs % 65536) % 65536) ∷ vc) (xs ++ (ys ++ (all byte ++ v))))
        → Gives word xs ys byte signs zeros clipped
    worked {word} {xs} {ys} {byte} {clipped = n} h e = record {
      gives = λ z.
          step_sized word side mask (before xs ys) z ∙ e
          ∙ ap (λ (x : ℕ). outcome 0 (counts 0 n) (state ds a r c (x ∷ vc) (xs ++ (ys ++ (all byte ++ v))))) (omega arith);
    }

    -- 6: vadd s of 0x64 and 0x64 gives 0x7f, sign 0, and document 02's of wish 4: "in every component the count is 16"; vneg s of 0x80 gives 0x7f, sign 0
    pub example6_vadd : Gives 0x8c100200 (all 0x64) (all 0x64) 0x7f 0 0 16
    unfolding triple_of decode_of decode_at rows fields_of stepped counted arith_lanes lanes_of listed flags how_many arith_lane saturated outside result widen sext low clip
    example6_vadd = worked (lit< tt) refl

    pub example6_vneg : Gives 0x8b100000 (all 0x80) (all 0) 0x7f 0 0 16
    unfolding triple_of decode_of decode_at rows fields_of stepped counted arith_lanes lanes_of listed flags how_many arith_lane saturated outside result widen sext low clip
    example6_vneg = worked (lit< tt) refl

    -- 7: vsub u of 0 and 1 gives 0, sign 1, zero 1
    pub example7 : Gives 0x9d100200 (all 0) (all 1) 0 0xffff 0xffff 16
    unfolding triple_of decode_of decode_at rows fields_of stepped counted arith_lanes lanes_of listed flags how_many arith_lane saturated outside result widen sext low clip
    example7 = worked (lit< tt) refl

    -- 8: vshr of 0x80 by 0x0f gives 0, sign 0, zero 0; vsar of 0x80 by 7 gives 0xff, sign 1
    pub example8_vshr : Gives 0x9e100200 (all 0x80) (all 0x0f) 0 0 0 0
    unfolding triple_of decode_of decode_at rows fields_of stepped counted shift_lanes lanes_of listed flags how_many shift_lane shifted widen sext low
    example8_vshr = worked (lit< tt) refl

    pub example8_vsar : Gives 0x8e100200 (all 0x80) (all 7) 0xff 0xffff 0 0
    unfolding triple_of decode_of decode_at rows fields_of stepped counted shift_lanes lanes_of listed flags how_many shift_lane shifted widen sext low
    example8_vsar = worked (lit< tt) refl

    -- 9: vadd9 of 0x10 and 0x1f0 gives 0, sign 0, zero 1. Both of its second sources are $v1, which holds 0x1f0 eight times
    pub example9 : Gives 0x9f100210 (all 0x10) nine 0 0 0xffff 0
    unfolding triple_of decode_of decode_at rows fields_of stepped counted add9_lanes lanes_of listed flags how_many add9_lane saturated outside sext low clip
    example9 = worked (lit< tt) refl

    -- document 02, wish 1: 5 clipped to 5 and 9 gives 5 with sign 1. Sources 1 and 2 are both $v0
    pub wish1 : Gives 0xa4100010 (all 5) (all 9) 5 0xffff 0 0
    unfolding triple_of decode_of decode_at rows fields_of stepped counted clip_lanes lanes_of listed flags how_many clip_lane clip_between sext low
    wish1 = worked (lit< tt) refl

-- there are such states, whatever the sixteen bytes of $v0 and of $v1 are; the last two are for the sources of 6 to 8 and wish 1, and of 9
module _ (xs ys : List ℕ) where
  abbrev pub zeroed : State
  zeroed = before (replicate 8192 0) (replicate 32 0) (replicate 32 0) (replicate 4 0) (replicate 3 0) (replicate 464 0) 0 0 xs ys

  pub sized_before : length xs ≡ 16 → length ys ≡ 16 → Sized zeroed
  sized_before h g = record {
    ds = length-replicate {A = ℕ} 8192 0;
    a = refl;
    r = refl;
    c = refl;
    vc = refl;
    v = simp length-append (rw (h, g) refl);
  }

pub sized_all : (x y : ℕ) → Sized (zeroed (all x) (all y))
sized_all x y = sized_before (all x) (all y) refl refl

pub sized_nine : Sized (zeroed (all 0x10) nine)
sized_nine = sized_before (all 0x10) nine refl refl

-- 10: the word 0xcc181234 sets the low half of $a3 to 0x1234
pub example10 : (a0 a1 a2 a3 : ℕ) (ds rest r c vc v : List ℕ) (side mask : ℕ)
    → triple_of 0xcc181234 side mask (state ds (a0 ∷ a1 ∷ a2 ∷ a3 ∷ rest) r c vc v)
    ≡ outcome 0 none (state ds (a0 ∷ a1 ∷ a2 ∷ (a3 / 65536 * 65536 + 0x1234) ∷ rest) r c vc v)
unfolding triple_of decode_of decode_at rows fields_of stepped counted
example10 a0 a1 a2 a3 ds rest r c vc v side mask = refl

module _ (word side mask : ℕ) (s : State) where
  by_opcode : (op : ℕ) → (fields_of word).op ≡ op → triple_of word side mask s ≡ by_decoded (decode_at op (fields_of word) side mask) s
  unfolding triple_of decode_of
  by_opcode op e = ap (λ (n : ℕ). by_decoded (decode_at n (fields_of word) side mask) s) e

  -- 10: every word with the opcode 0xc3 gives 2, with 0x7f or 0xe0 gives 1, and leaves the state
  pub example10_c3 : (fields_of word).op ≡ 0xc3 → triple_of word side mask s ≡ outcome 2 none s
  unfolding decode_at rows
  example10_c3 e = by_opcode 0xc3 e

  pub example10_7f : (fields_of word).op ≡ 0x7f → triple_of word side mask s ≡ outcome 1 none s
  unfolding decode_at
  example10_7f e = by_opcode 0x7f e

  pub example10_e0 : (fields_of word).op ≡ 0xe0 → triple_of word side mask s ≡ outcome 1 none s
  unfolding decode_at
  example10_e0 e = by_opcode 0xe0 e
