-- A step counts the distinct (bank, cell) pairs of its address list, at most sixteen; and no step counts more than it may.
use mathlib.Core.Path.{◌≡◌, refl, ap, ◌∙◌}
use Prim.Native.Nat.{ℕ, ◌≤◌, zero-le}
use mathlib.Core.Bool.{Bool, true, false, cond}
use mathlib.Core.List.{List, map-map}
use Rattle.banks.specs.Bank.{pair_of}
use Rattle.banks.specs.Line.{addresses, distinct}
use Rattle.terms.specs.declared.Way.{Way}
use Rattle.banks.proofs.Counts.{cells_le_16}
use Rattle.terms.specs.Counts.{none, Within}
use Rattle.terms.proofs.Sums.{within_none}
use Rattle.words.specs.Table.{decode_of}
use Rattle.words.specs.Address.{Address}
use Rattle.words.specs.Address as A
use Rattle.words.specs.Vector.{Vector}
use Rattle.words.specs.Vector as W
use Rattle.words.specs.Insn.{Insn}
use Rattle.words.specs.Insn as N
use Rattle.words.specs.Decoded.{Decoded}
use Rattle.words.specs.Decoded as D
use Rattle.pieces.specs.State.{State, sized_of}
use Rattle.pieces.specs.Place.{Addr, Xlat, xlat}
use Rattle.model.specs.Prog.{Prog, ret, ◌>>=◌, run, Write, idle, Did, Done, cells, done}
use Rattle.model.specs.Prog as P
use Rattle.model.specs.Address.{address, increment, span, loads, from, loading}
use Rattle.model.specs.Vector.{vector}
use Rattle.model.specs.Claims.{pairs_at, pairs_a, pairs}
use Rattle.model.specs.Step.{did, counts_x, counted, outcome, by_decoded, triple_of, step_of}
use Rattle.model.proofs.Laws.{run_bind}
use Rattle.model.proofs.Clipped.{clipped_le}

-- an access enters the pairs of its address list
span_are : (way : Way) (c x : ℕ) → P.entered (span way c x) ≡ distinct (pairs_at way c x)
span_are way c x = ap distinct (map-map (λ (b : Addr). pair_of b.stride b.addr) (λ y. record { stride = c; addr = y }) (addresses way c x))

-- the accesses that a program's result counts
abbrev cost : Xlat → Prog Did → State → ℕ
cost X m s = cells (run X m s).access

module _ (X : Xlat) (s : State) where
  -- a program that goes on counts what its second part counts
  cost_bind : {Y : Type 0} (m : Prog Y) (f : Y → Prog Did) → cost X (m >>= f) s ≡ cost X (f (run X m s)) s
  cost_bind m f = ap (λ (d : Did). cells d.access) (run_bind X m f s)

  loading_are : (way : Way) (n c x : ℕ) (rest : List Write) → cost X (loading way n c x rest) s ≡ distinct (pairs_at way c x)
  loading_are way n c x rest = cost_bind (loads (span way c x)) _ ∙ span_are way c x

  address_are : (i : Address) → cost X (address i) s ≡ distinct (pairs_a i s)
  address_are (A.Set o) = refl
  address_are (A.Add o) = refl
  address_are (A.Bitop o) = refl
  address_are (A.Aadd o) = refl
  address_are (A.Ld o) = loading_are o.way o.reg _ _ _
  address_are (A.St o) = cost_bind (from o.way o.reg) _ ∙ span_are o.way _ _
  address_are (A.Lda o) = cost_bind (increment o.inc) _ ∙ loading_are o.way o.reg _ _ _
  address_are (A.Sta o) = cost_bind (increment o.inc) _ ∙ cost_bind (from o.way o.reg) _ ∙ span_are o.way _ _

  pub vector_idle : (i : Vector) → (run X (vector i) s).access ≡ idle
  vector_idle (W.Arith o) = simp run_bind
  vector_idle (W.Shift o) = simp run_bind
  vector_idle (W.Clip o) = refl
  vector_idle (W.Add9 o) = refl
  vector_idle (W.MinAbs o) = refl
  vector_idle (W.Bitop o) = refl
  vector_idle (W.Logic o) = refl
  vector_idle (W.Cmpad o) = simp run_bind
  vector_idle (W.Swz o) = refl
  vector_idle (W.Mov o) = refl
  vector_idle (W.MovImm o) = refl
  vector_idle (W.MovFlags dst) = refl

  did_are : (i : Insn) → cost X (did i) s ≡ distinct (pairs i s)
  did_are (N.Address i) = address_are i
  did_are (N.Vector i) = rw (cost, vector_idle i) refl
  did_are N.Nop = refl

  -- whatever the translation
  pub counts_are : (i : Insn) → (counts_x X i s).accesses ≡ distinct (pairs i s)
  counts_are i = ap (λ (d : Done). d.counts.accesses) (run_bind X (did i) (λ d. ret (done d)) s) ∙ did_are i

-- a step counts the distinct (bank, cell) pairs of its address list
pub accesses_are : (i : Insn) (s : State) → (counted i s).accesses ≡ distinct (pairs i s)
unfolding counted
accesses_are i s = counts_are xlat s i

-- ---- at most sixteen

pairs_a_le : (i : Address) (s : State) → distinct (pairs_a i s) ≤ 16
pairs_a_le (A.Set o) s = zero-le
pairs_a_le (A.Add o) s = zero-le
pairs_a_le (A.Bitop o) s = zero-le
pairs_a_le (A.Aadd o) s = zero-le
pairs_a_le (A.Ld o) s = cells_le_16 o.way _ _
pairs_a_le (A.St o) s = cells_le_16 o.way _ _
pairs_a_le (A.Lda o) s = cells_le_16 o.way _ _
pairs_a_le (A.Sta o) s = cells_le_16 o.way _ _

pairs_le : (i : Insn) (s : State) → distinct (pairs i s) ≤ 16
pairs_le (N.Address i) s = pairs_a_le i s
pairs_le (N.Vector i) s = zero-le
pairs_le N.Nop s = zero-le

-- no instruction counts more than one step may
pub counted_within : (i : Insn) (s : State) → Within 1 (counted i s)
counted_within i s = record { accesses = rw (accesses_are i s) (pairs_le i s); clipped = clipped_le i s }

decoded_within : (d : Decoded) (s : State) → Within 1 (by_decoded d s).counts
decoded_within (D.Insn i) s = counted_within i s
decoded_within (D.Refused k) s = within_none 1

-- no triple does
pub triple_within : (word side mask : ℕ) (s : State) → Within 1 (triple_of word side mask s).counts
unfolding triple_of
triple_within word side mask s = decoded_within (decode_of word side mask) s

-- and the single call does not
pub step_within : (word side mask : ℕ) (s : State) → Within 1 (step_of word side mask s).counts
unfolding step_of
step_within word side mask s = go (sized_of s)
  where
    go : (b : Bool) → Within 1 (cond b (triple_of word side mask s) (outcome 5 none s)).counts
    go true = triple_within word side mask s
    go false = within_none 1
