-- Results whose flags are not packed yet: how the code makes one, and that each operation's stands for what Lanes.antt says.
-- The laws `.._packs` are for callers: from `e : r ≡ arith_unpacked op signed a b`, `ap packs e ∙ arith_packs op signed a b` is
-- `packs r ≡ arith_lanes op signed a b`.
use mathlib.Core.Path.{◌≡◌, refl, sym}
use mathlib.Core.Bool.{Bool, true, false, cond}
use mathlib.Core.List.{List}
use Prim.Native.Nat.{ℕ}
use lib.Dec.{eqb, leb}
use lib.ListN.{get_or, replicate, get_or-replicate}
use Rattle.lane.specs.declared.Calc.{Calc}
use Rattle.lane.specs.declared.Logic.{Logic}
use Rattle.lane.specs.Lane.{Lane, unsigned, arith_lane, shift_lane, min_abs_lane, add9_lane, bitop_lane, logic_lane, mov_lane, mov_imm_lane}
use Rattle.lane.proofs.Saturated.{signed_zero, signed_sign, unsigned_zero}
use Rattle.lane.proofs.Clamped.{clip_zero}
use Rattle.lanes.specs.declared.Unpacked.{Unpacked}
use Rattle.lanes.specs.Lanes.{listed, how_many, lanes_of, arith_lanes, shift_lanes, clip_lanes, min_abs_lanes, add9_lanes, bitop_lanes, logic_lanes, mov_lanes, mov_imm_lanes}
use Rattle.lanes.specs.Inner.Unpacked.{
  UnpackedLane,
  packs,
  zeros_of,
  tops_of,
  unpacked_of,
  both_in,
  sign_beside,
  zero_beside,
  arith_unpacked,
  shift_unpacked,
  clip_unpacked,
  min_abs_unpacked,
  add9_unpacked,
  bitop_unpacked,
  logic_unpacked,
  mov_unpacked,
  mov_imm_unpacked,
}
use Rattle.lanes.proofs.Listed.{get_d_listed, listed_same, listed_is}
use Rattle.lanes.proofs.Packing.{flags_same}
use Rattle.lanes.proofs.Counting.{many_same, many_none}

-- three lists of sixteen bytes, and how many are told
pub made : (f : ℕ → UnpackedLane) {bs ts ps : List ℕ} {n : ℕ} → bs ≡ listed 16 (λ i. (f i).byte) → ts ≡ listed 16 (λ i. (f i).tested) → ps ≡ listed 16 (λ i. (f i).top)
    → n ≡ how_many 16 (λ i. (f i).clipped) → ◌≡◌ {A = Unpacked} (record { bytes = bs; tested = ts; tops = ps; clipped = n }) (unpacked_of f)
unfolding unpacked_of
made f p q r k = cc

-- where none is told
pub untold : (f : ℕ → UnpackedLane) {bs ts ps : List ℕ} → bs ≡ listed 16 (λ i. (f i).byte) → ts ≡ listed 16 (λ i. (f i).tested) → ps ≡ listed 16 (λ i. (f i).top)
    → ((i : ℕ) → (f i).clipped ≡ false) → ◌≡◌ {A = Unpacked} (record { bytes = bs; tested = ts; tops = ps; clipped = 0 }) (unpacked_of f)
untold f p q r u = made f p q r (sym (many_none 16 (λ i. (f i).clipped) u))

-- and no sign flag is set
pub quiet : (f : ℕ → UnpackedLane) {bs ts : List ℕ} → bs ≡ listed 16 (λ i. (f i).byte) → ts ≡ listed 16 (λ i. (f i).tested) → ((i : ℕ) → (f i).top ≡ 0)
    → ((i : ℕ) → (f i).clipped ≡ false) → ◌≡◌ {A = Unpacked} (record { bytes = bs; tested = ts; tops = replicate 16 0; clipped = 0 }) (unpacked_of f)
quiet f p q s u = untold f p q (listed_is _ (replicate 16 0) refl (λ i h. rw (get_or-replicate {A = ℕ} 16 i 0 0 h, s i))) u

-- a move of what an operation made
pub moved : (f : ℕ → ℕ) {l : List ℕ} → l ≡ listed 16 f → mov_unpacked l ≡ unpacked_of (λ i. sign_beside (unsigned (f i)))
unfolding mov_unpacked unpacked_of mov_lane listed how_many
moved f e = rw e

-- one component stands for an operation's
record Stands (m : UnpackedLane) (l : Lane) : Type 0 where
  byte : m.byte ≡ l.byte
  zero : eqb m.tested 0 ≡ l.zero
  sign : leb 0x80 m.top ≡ l.sign
  clipped : m.clipped ≡ l.clipped

all_stand : (m : ℕ → UnpackedLane) (f : ℕ → Lane) → ((i : ℕ) → Stands (m i) (f i)) → packs (unpacked_of m) ≡ lanes_of f
unfolding packs unpacked_of lanes_of zeros_of tops_of
all_stand m f s =
    let bytes = listed_same 16 (λ i. (m i).byte) (λ i. (f i).byte) (λ i h. (s i).byte) in
    let tops : List ℕ = listed 16 (λ i. (m i).top) in
    let tested : List ℕ = listed 16 (λ i. (m i).tested) in
    let signs = flags_same 16 (λ i. leb 0x80 (get_or tops i 0)) (λ i. (f i).sign) (λ i h. rw (get_d_listed (λ i. (m i).top) i h) (s i).sign) in
    let zeros = flags_same 16 (λ i. eqb (get_or tested i 0) 0) (λ i. (f i).zero) (λ i h. rw (get_d_listed (λ i. (m i).tested) i h) (s i).zero) in
    let clipped = many_same 16 (λ i. (m i).clipped) (λ i. (f i).clipped) (λ i h. (s i).clipped) in
    rw (bytes, signs, zeros, clipped)

-- a flag as a byte
pub full : (t : Bool) → leb 0x80 (cond t 255 0) ≡ t
full true = refl
full false = refl

none : (t : Bool) → eqb (cond t 0 1) 0 ≡ t
none true = refl
none false = refl

-- each way of leaving flags, where the byte tells the others
both_in_lem : (l : Lane) → l.zero ≡ eqb l.byte 0 → l.sign ≡ leb 0x80 l.byte → Stands (both_in l) l
both_in_lem l z s = record { byte = refl; zero = sym z; sign = sym s; clipped = refl }

sign_beside_lem : (l : Lane) → l.zero ≡ eqb l.byte 0 → Stands (sign_beside l) l
sign_beside_lem l z = record { byte = refl; zero = sym z; sign = full l.sign; clipped = refl }

zero_beside_lem : (l : Lane) → l.sign ≡ leb 0x80 l.byte → Stands (zero_beside l) l
zero_beside_lem l s = record { byte = refl; zero = none l.zero; sign = sym s; clipped = refl }

-- the operations
pub arith_packs : (op : Calc) (signed : Bool) (a b : List ℕ) → packs (arith_unpacked op signed a b) ≡ arith_lanes op signed a b
unfolding arith_unpacked arith_lanes arith_lane
arith_packs op true a b = all_stand _ _ (λ i. both_in_lem _ (signed_zero _) (signed_sign _))
arith_packs op false a b = all_stand _ _ (λ i. sign_beside_lem _ (unsigned_zero _))

pub shift_packs : (signed : Bool) (a b : List ℕ) → packs (shift_unpacked signed a b) ≡ shift_lanes signed a b
unfolding shift_unpacked shift_lanes shift_lane
shift_packs signed a b = all_stand _ _ (λ i. zero_beside_lem _ refl)

pub clip_packs : (a b c : List ℕ) → packs (clip_unpacked a b c) ≡ clip_lanes a b c
unfolding clip_unpacked clip_lanes
clip_packs a b c = all_stand _ _ (λ i. sign_beside_lem _ (clip_zero (get_or a i 0) (get_or b i 0) (get_or c i 0)))

pub min_abs_packs : (a b : List ℕ) → packs (min_abs_unpacked a b) ≡ min_abs_lanes a b
unfolding min_abs_unpacked min_abs_lanes min_abs_lane
min_abs_packs a b = all_stand _ _ (λ i. sign_beside_lem _ refl)

pub add9_packs : (a b c : List ℕ) → packs (add9_unpacked a b c) ≡ add9_lanes a b c
unfolding add9_unpacked add9_lanes add9_lane
add9_packs a b c = all_stand _ _ (λ i. sign_beside_lem _ (unsigned_zero _))

pub bitop_packs : (op : ℕ) (a b : List ℕ) → packs (bitop_unpacked op a b) ≡ bitop_lanes op a b
unfolding bitop_unpacked bitop_lanes bitop_lane
bitop_packs op a b = all_stand _ _ (λ i. sign_beside_lem _ refl)

pub logic_packs : (op : Logic) (a : List ℕ) (byte : ℕ) → packs (logic_unpacked op a byte) ≡ logic_lanes op a byte
unfolding logic_unpacked logic_lanes logic_lane
logic_packs op a byte = all_stand _ _ (λ i. sign_beside_lem _ refl)

pub mov_packs : (a : List ℕ) → packs (mov_unpacked a) ≡ mov_lanes a
unfolding mov_unpacked mov_lanes mov_lane
mov_packs a = all_stand _ _ (λ i. sign_beside_lem _ refl)

pub mov_imm_packs : (byte : ℕ) → packs (mov_imm_unpacked byte) ≡ mov_imm_lanes byte
unfolding mov_imm_unpacked mov_imm_lanes mov_imm_lane
mov_imm_packs byte = all_stand _ _ (λ i. both_in_lem _ refl refl)
