-- A step counts the components whose true result lies outside the clip range: at most sixteen, none of an instruction that does not tell, and of an
-- unsigned form as many as the sign flags that it works out.
use mathlib.Core.Path.{◌≡◌, refl, sym, ap, ◌∙◌}
use Prim.Native.Nat.{ℕ, ◌*◌, ◌≤◌, ◌<◌}
use native.Mathlib.Omega.{arith}
use mathlib.Core.Bool.{Bool, true, false, true≢false}
use mathlib.Core.List.{List}
use lib.ListN.{get_or, get_or-replicate}
use Rattle.bits.specs.Bitop.{bit}
use Rattle.lane.specs.declared.Calc.{Calc}
use Rattle.lane.specs.Lane.{saturated, tells, arith_lane, shift_lane, min_abs_lane, add9_lane, bitop_lane, logic_lane, mov_lane, mov_imm_lane}
use Rattle.lane.proofs.Clamped.{clip_untold}
use Rattle.lane.proofs.Clipped.{unsigned_told, unsigned_told_nine}
use Rattle.lanes.specs.Lanes.{how_many, lanes_of, arith_lanes, shift_lanes, clip_lanes, add9_lanes, min_abs_lanes, bitop_lanes, logic_lanes, mov_lanes, mov_imm_lanes}
use Rattle.lanes.proofs.Counting.{many_same, many_none, many_le, ones}
use Rattle.words.specs.Second.{Second}
use Rattle.words.specs.Second as S
use Rattle.words.specs.Address.{Address}
use Rattle.words.specs.Address as A
use Rattle.words.specs.Vector.{Vector}
use Rattle.words.specs.Vector as W
use Rattle.words.specs.Operands.{ArithOps, ThreeOps}
use Rattle.words.specs.Insn.{Insn}
use Rattle.words.specs.Insn as N
use Rattle.pieces.specs.State.{State}
use Rattle.pieces.specs.Place.{xlat}
use Rattle.model.specs.Prog.{Prog, ret, ◌>>=◌, run, Did, Done, done}
use Rattle.model.specs.Address.{address, increment, span, loads, from}
use Rattle.model.specs.Vector.{vector, second, input}
use Rattle.model.specs.Claims.{bytes_of, second_at, clips_v, clips}
use Rattle.model.specs.Step.{did, counted}
use Rattle.model.proofs.Laws.{run_bind}

-- what a program's result tells
abbrev clipped_by : Prog Did → State → ℕ
clipped_by m s = (run xlat m s).clipped

module _ (s : State) where
  -- a program that goes on tells what its second part tells
  told_bind : {Y : Type 0} (m : Prog Y) (f : Y → Prog Did) → clipped_by (m >>= f) s ≡ clipped_by (f (run xlat m s)) s
  told_bind m f = ap (λ (d : Did). d.clipped) (run_bind xlat m f s)

  -- component i of source 2 as it is read
  pub second_at_lem : (y : Second) (i : ℕ) → i < 16 → get_or (run xlat (second y) s) i 0 ≡ second_at y s i
  second_at_lem (S.Register n) i h = refl
  second_at_lem (S.Byte b) i h = get_or-replicate {A = ℕ} 16 i b 0 h
  second_at_lem S.Absent i h = get_or-replicate {A = ℕ} 16 i 0 0 h

  nobody : 0 ≡ how_many 16 (λ i. false)
  nobody = sym (many_none 16 _ (λ i. refl))

  vector_told : (i : Vector) → clipped_by (vector i) s ≡ how_many 16 (clips_v i s)
  unfolding lanes_of arith_lanes shift_lanes clip_lanes add9_lanes min_abs_lanes bitop_lanes logic_lanes mov_lanes mov_imm_lanes arith_lane shift_lane min_abs_lane add9_lane bitop_lane logic_lane mov_lane mov_imm_lane saturated
  vector_told (W.Arith o) =
      told_bind (second o.second) _
      ∙ many_same 16 _ _ (λ i h. rw (second_at_lem o.second i h) refl)
  vector_told (W.Shift o) = told_bind (second o.second) _
  vector_told (W.Clip o) = many_same 16 _ _ (λ i h. clip_untold _ _ _)
  vector_told (W.Add9 o) = refl
  vector_told (W.MinAbs o) = refl
  vector_told (W.Bitop o) = refl
  vector_told (W.Logic o) = refl
  vector_told (W.Cmpad o) = told_bind (input o.vcdst o.input) _ ∙ nobody
  vector_told (W.Swz o) = nobody
  vector_told (W.Mov o) = refl
  vector_told (W.MovImm o) = refl
  vector_told (W.MovFlags dst) = nobody

  address_told : (i : Address) → clipped_by (address i) s ≡ 0
  address_told (A.Set o) = refl
  address_told (A.Add o) = refl
  address_told (A.Bitop o) = refl
  address_told (A.Aadd o) = refl
  address_told (A.Ld o) = told_bind (loads (span o.way _ _)) _
  address_told (A.St o) = told_bind (from o.way o.reg) _
  address_told (A.Lda o) = told_bind (increment o.inc) _ ∙ told_bind (loads (span o.way _ _)) _
  address_told (A.Sta o) = told_bind (increment o.inc) _ ∙ told_bind (from o.way o.reg) _

  did_told : (i : Insn) → clipped_by (did i) s ≡ how_many 16 (clips i s)
  did_told (N.Address i) = address_told i ∙ nobody
  did_told (N.Vector i) = vector_told i
  did_told N.Nop = nobody

-- a step counts what its program tells
counted_told : (i : Insn) (s : State) → (counted i s).clipped ≡ clipped_by (did i) s
unfolding counted
counted_told i s = ap (λ (d : Done). d.counts.clipped) (run_bind xlat (did i) (λ d. ret (done d)) s)

-- how many of its sixteen components are so
pub clipped_are : (i : Insn) (s : State) → (counted i s).clipped ≡ how_many 16 (clips i s)
clipped_are i s = counted_told i s ∙ did_told s i

-- at most sixteen
pub clipped_le : (i : Insn) (s : State) → (counted i s).clipped ≤ 1 * 16
clipped_le i s = rw (clipped_are i s) (omega (arith, many_le 16 (clips i s)))

-- the instructions that tell: vadd, vsub, vneg, vabs and vadd9
abbrev pub telling : Insn → Bool
telling (N.Vector (W.Arith o)) = tells o.calc
telling (N.Vector (W.Add9 o)) = true
telling (N.Vector (W.Shift o)) = false
telling (N.Vector (W.Clip o)) = false
telling (N.Vector (W.MinAbs o)) = false
telling (N.Vector (W.Bitop o)) = false
telling (N.Vector (W.Logic o)) = false
telling (N.Vector (W.Cmpad o)) = false
telling (N.Vector (W.Swz o)) = false
telling (N.Vector (W.Mov o)) = false
telling (N.Vector (W.MovImm o)) = false
telling (N.Vector (W.MovFlags dst)) = false
telling (N.Address i) = false
telling N.Nop = false

quiet : (i : Insn) (s : State) → telling i ≡ false → (k : ℕ) → clips i s k ≡ false
quiet (N.Vector (W.Arith o)) s e k = rw e refl
quiet (N.Vector (W.Add9 o)) s e k = absurd (true≢false e)
quiet (N.Vector (W.Shift o)) s e k = refl
quiet (N.Vector (W.Clip o)) s e k = refl
quiet (N.Vector (W.MinAbs o)) s e k = refl
quiet (N.Vector (W.Bitop o)) s e k = refl
quiet (N.Vector (W.Logic o)) s e k = refl
quiet (N.Vector (W.Cmpad o)) s e k = refl
quiet (N.Vector (W.Swz o)) s e k = refl
quiet (N.Vector (W.Mov o)) s e k = refl
quiet (N.Vector (W.MovImm o)) s e k = refl
quiet (N.Vector (W.MovFlags dst)) s e k = refl
quiet (N.Address i) s e k = refl
quiet N.Nop s e k = refl

-- every other instruction counts 0
pub clipped_none : (i : Insn) (s : State) → telling i ≡ false → (counted i s).clipped ≡ 0
clipped_none i s e = clipped_are i s ∙ many_none 16 (clips i s) (quiet i s e)

-- ---- of an unsigned form the count is the number of sign flags worked out, whether they are written or not

-- how many bits of a word of flags are set
abbrev pub set_in : ℕ → ℕ
set_in flags = how_many 16 (λ i. bit i flags)

pub arith_signs : (op : Calc) → tells op ≡ true → (a b : List ℕ) → (arith_lanes op false a b).clipped ≡ set_in (arith_lanes op false a b).signs
unfolding arith_lanes lanes_of
arith_signs op e a b = many_same 16 _ _ (λ i h. unsigned_told op e (get_or a i 0) (get_or b i 0)) ∙ sym (ones 16 _)

pub add9_signs : (a b c : List ℕ) → (add9_lanes a b c).clipped ≡ set_in (add9_lanes a b c).signs
unfolding add9_lanes lanes_of
add9_signs a b c = many_same 16 _ _ (λ i h. unsigned_told_nine (get_or a i 0) _) ∙ sym (ones 16 _)

pub unsigned_signs : (o : ArithOps) (s : State) → o.signed ≡ false → tells o.calc ≡ true
    → (counted (N.Vector (W.Arith o)) s).clipped ≡ set_in (arith_lanes o.calc false (bytes_of s o.src1) (run xlat (second o.second) s)).signs
unsigned_signs o s e t =
    counted_told (N.Vector (W.Arith o)) s ∙ told_bind s (second o.second) _
    ∙ rw e (arith_signs o.calc t (bytes_of s o.src1) (run xlat (second o.second) s))

pub unsigned_signs_nine : (o : ThreeOps) (s : State)
    → (counted (N.Vector (W.Add9 o)) s).clipped ≡ set_in (add9_lanes (bytes_of s o.src1) (bytes_of s o.src2) (bytes_of s o.src3)).signs
unsigned_signs_nine o s = counted_told (N.Vector (W.Add9 o)) s ∙ add9_signs (bytes_of s o.src1) (bytes_of s o.src2) (bytes_of s o.src3)
