-- The table is not too wide: for each kind of place two instructions that clash there, and states where the two orders differ.
-- What is left open in a state may be anything, so the states of right lengths are among them.
use mathlib.Core.Path.{◌≡◌, refl, ap}
use Prim.Native.Nat.{ℕ}
use native.Mathlib.Omega.{arith}
use mathlib.Core.Bool.{cond}
use mathlib.Core.List.{List, [], ◌∷◌, ◌++◌}
use lib.ListN.{get_or, replicate}
use Rattle.banks.specs.Bank.{at, place_of, bank_of, turn_of, cell_of, hilo_of}
use Rattle.banks.specs.Line.{addresses, line, start_of, step_of, word_start}
use Rattle.terms.specs.declared.Way.TheVariants.{Scalar}
use Rattle.lanes.specs.Lanes.{listed, flags, lanes_of, mov_lanes, mov_imm_lanes, flag_bytes, cmpad_flags}
use Rattle.lane.specs.Lane.{mov_lane, mov_imm_lane, cmpad_lane}
use Rattle.terms.specs.declared.Half as H
use Rattle.terms.specs.declared.Half.TheVariants.{Low, High}
use Rattle.words.specs.Input.{Input}
use Rattle.words.specs.Input.{Mask, Signs}
use Rattle.words.specs.Address as A
use Rattle.words.specs.Vector as W
use Rattle.words.specs.Insn.{Insn}
use Rattle.words.specs.Insn as N
use Rattle.pieces.specs.State.{State, state}
use Rattle.model.specs.Number.{reads_of, writes_of, touches_of}
use Rattle.model.specs.Swap.{has}
use Rattle.model.specs.Step.{stepped}

-- the numbers of xs that are in ys
abbrev pub shared : List ℕ → List ℕ → List ℕ
shared [] ys = []
shared (x ∷ xs) ys = cond (has x ys) (x ∷ shared xs ys) (shared xs ys)

-- i writes just the places ps of those that j touches, j just the places qs of those that i touches, and the two orders differ
pub record Clashes (i j : Insn) (s : State) (ps qs : List ℕ) : Type 0 where
  pub forth : shared (writes_of i s) (touches_of j s) ≡ ps
  pub back : shared (writes_of j s) (touches_of i s) ≡ qs
  pub differ : stepped j (stepped i s) ≡ stepped i (stepped j s) → ⊥

abbrev put : H.Half → ℕ → ℕ → Insn
put h n x = N.Address (A.Set (record { half = h; dst = n; imm = x }))

-- $a[d] = 2 * $a[n], its flags in $c[c]
abbrev double : ℕ → ℕ → ℕ → Insn
double d n c = N.Address (A.Add (record { dst = d; src1 = n; src2 = n; cdst = c }))

abbrev aadd : ℕ → ℕ → Insn
aadd n c = N.Address (A.Aadd (record { dst = n; src2 = n; cdst = c }))

abbrev ld : ℕ → ℕ → Insn
ld n base = N.Address (A.Ld (record { way = Scalar; reg = n; base = base; uimm = 0; cdst = 7 }))

abbrev st : ℕ → ℕ → Insn
st n base = N.Address (A.St (record { way = Scalar; reg = n; base = base; uimm = 0; cdst = 7 }))

abbrev vmov : ℕ → ℕ → ℕ → Insn
vmov d x c = N.Vector (W.MovImm (record { dst = d; byte = x; vcdst = c }))

abbrev mov : ℕ → ℕ → Insn
mov d n = N.Vector (W.Mov (record { dst = d; src1 = n; vcdst = 7 }))

-- vcmpad of the pair $v0, $v1 and of $v2, its flags in $vc0
abbrev vcmpad : ℕ → Input → Insn
vcmpad op x = N.Vector (W.Cmpad (record { op = op; src1 = 0; src2 = 2; input = x; vcdst = 0 }))

module _ (ds a r c vc v : List ℕ) where
  -- the low half of $a0: set, and read by an add
  pub low_half : Clashes (put Low 0 1) (double 1 0 7) (state ds (0 ∷ 0 ∷ a) r c vc v) (0 ∷ []) []
  unfolding reads_of writes_of stepped
  low_half = record { forth = refl; back = refl; differ = λ e. omega (arith, ap (λ (t : State). get_or t.a 1 0) e) }

  -- its high half
  pub high_half : Clashes (put High 0 1) (double 1 0 7) (state ds (0 ∷ 0 ∷ a) r c vc v) (1 ∷ []) []
  unfolding reads_of writes_of stepped
  high_half = record { forth = refl; back = refl; differ = λ e. omega (arith, ap (λ (t : State). get_or t.a 1 0) e) }

  -- both halves of $a2: written by two adds
  pub whole_word : Clashes (double 2 0 7) (double 2 1 7) (state ds (0 ∷ 1 ∷ 0 ∷ a) r c vc v) (4 ∷ 5 ∷ []) (4 ∷ 5 ∷ [])
  unfolding reads_of writes_of stepped
  whole_word = record { forth = refl; back = refl; differ = λ e. omega (arith, ap (λ (t : State). get_or t.a 2 0) e) }

  -- the long pair of $c0: written by two adds, one of which comes to zero
  pub long_pair : Clashes (double 0 0 0) (double 1 1 0) (state ds (0 ∷ 1 ∷ a) r (0 ∷ c) vc v) (128 ∷ []) (128 ∷ [])
  unfolding reads_of writes_of stepped
  long_pair = record { forth = refl; back = refl; differ = λ e. omega (arith, ap (λ (t : State). get_or t.c 0 0) e) }

  -- the short bit of $c0: written by two aadds, one of which reaches its limit
  pub short_bit : Clashes (aadd 0 0) (aadd 1 0) (state ds (0 ∷ 65536 ∷ a) r (0 ∷ c) vc v) (129 ∷ []) (129 ∷ [])
  unfolding reads_of writes_of stepped
  short_bit = record { forth = refl; back = refl; differ = λ e. omega (arith, ap (λ (t : State). get_or t.c 0 0) e) }

  -- $v0: written by vmov, read by mov
  pub vector_register : Clashes (vmov 0 1 7) (mov 1 0) (state ds a r c vc (replicate 32 0 ++ v)) (96 ∷ []) []
  unfolding reads_of writes_of stepped mov_imm_lanes mov_lanes lanes_of listed flags mov_lane mov_imm_lane
  vector_register = record { forth = refl; back = refl; differ = λ e. omega (arith, ap (λ (t : State). get_or t.v 16 0) e) }

  -- the signs of $vc0: cleared by vmov, read by mov from $vc; the zeros are 0 before and after
  pub signs_clash : Clashes (vmov 0 1 0) (N.Vector (W.MovFlags 1)) (state ds a r c (1 ∷ 0 ∷ 0 ∷ 0 ∷ vc) (replicate 32 0 ++ v)) (136 ∷ 137 ∷ []) []
  unfolding reads_of writes_of stepped mov_imm_lanes lanes_of listed flags mov_imm_lane flag_bytes
  signs_clash = record { forth = refl; back = refl; differ = λ e. omega (arith, ap (λ (t : State). get_or t.v 16 0) e) }

  -- the zeros of $vc0: set by vmov of 0, read by mov from $vc; the signs are 0 before and after
  pub zeros_clash : Clashes (vmov 0 0 0) (N.Vector (W.MovFlags 1)) (state ds a r c (0 ∷ 0 ∷ 0 ∷ 0 ∷ vc) (replicate 32 0 ++ v)) (136 ∷ 137 ∷ []) []
  unfolding reads_of writes_of stepped mov_imm_lanes lanes_of listed flags mov_imm_lane flag_bytes
  zeros_clash = record { forth = refl; back = refl; differ = λ e. omega (arith, ap (λ (t : State). get_or t.v 18 0) e) }

  -- data store bytes: four stored from $r0 at the address 0, and loaded into $r1
  pub store_byte : Clashes (st 0 0) (ld 1 0) (state (0 ∷ ds) (0 ∷ a) (5 ∷ 0 ∷ r) c vc v) (144 ∷ 656 ∷ 1168 ∷ 1680 ∷ []) []
  unfolding reads_of writes_of stepped addresses line start_of step_of word_start at place_of bank_of turn_of cell_of hilo_of
  store_byte = record { forth = refl; back = refl; differ = λ e. omega (arith, ap (λ (t : State). get_or t.r 1 0) e) }

  -- $r0: loaded from the address 0, and stored at 16
  pub scalar_register : Clashes (ld 0 0) (st 0 1) (state (0 ∷ 0 ∷ ds) (0 ∷ 16 ∷ a) (5 ∷ r) c vc v) (64 ∷ []) []
  unfolding reads_of writes_of stepped addresses line start_of step_of word_start at place_of bank_of turn_of cell_of hilo_of
  scalar_register = record { forth = refl; back = refl; differ = λ e. omega (arith, ap (λ (t : State). get_or t.ds 1 0) e) }

  -- $v1, the second register of vcmpad's pair: written by vmov; the distance 0 is the second register's 0 before, and not its 1 after
  pub second_of_pair : Clashes (vmov 1 1 7) (vcmpad 0 (Mask 0)) (state ds a r c (0 ∷ vc) (replicate 48 0 ++ v)) (97 ∷ []) []
  unfolding reads_of writes_of stepped mov_imm_lanes lanes_of listed flags mov_imm_lane cmpad_flags cmpad_lane
  second_of_pair = record { forth = refl; back = refl; differ = λ e. omega (arith, ap (λ (t : State). get_or t.vc 0 0) e) }

  -- the signs of $vc0, vcmpad's input where the mask is not valid: cleared by vmov, and turned by vcmpad with CMPOP 5, "not the first".
  -- vcmpad writes the flags that it reads, so the two clash there by writing too. But each by itself leaves the same flags, so that it
  -- does not matter which of them writes last: it matters that vcmpad reads
  abbrev pub signed : State
  signed = state ds a r c (0xffff ∷ vc) (replicate 16 0 ++ (replicate 16 1 ++ (replicate 16 0 ++ v)))

  pub input_signs : Clashes (vmov 3 1 0) (vcmpad 5 Signs) signed (136 ∷ 137 ∷ []) (136 ∷ 137 ∷ [])
  unfolding reads_of writes_of stepped mov_imm_lanes lanes_of listed flags mov_imm_lane cmpad_flags cmpad_lane
  input_signs = record { forth = refl; back = refl; differ = λ e. omega (arith, ap (λ (t : State). get_or t.vc 0 0) e) }

  pub input_signs_alone : (stepped (vmov 3 1 0) signed).vc ≡ (stepped (vcmpad 5 Signs) signed).vc
  unfolding stepped mov_imm_lanes lanes_of listed flags mov_imm_lane cmpad_flags cmpad_lane
  input_signs_alone = refl
