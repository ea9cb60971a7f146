-- The three demands of document 01, as statements about the single call `step_of`, the list call `run_of` and the table of places. Their
-- proofs are `demand1`, `demand2` and `demand3` in proofs/Claims.antt. That the code does what the two calls say is its contract.
use Rattle.std.specs.Prelude.{ℕ, zero, suc, ◌+◌, ◌-◌, ◌*◌, ◌%◌, ◌≤◌, ◌<◌, ◌≡◌, ◌↔◌, Bool, true, false, cond, not, ◌||◌, ◌&&◌, eqb, ltb, leb, pos, ◌+ℤ◌, length, get_or}
use mathlib.Core.List.{List, [], ◌∷◌, ◌++◌, map, Memᴰ}
use Rattle.std.specs.Int.Bits.{bit_or}
use Rattle.signed.specs.Signed.{sext, widen}
use Rattle.lane.specs.Lane.{outside, result, tells}
use Rattle.lanes.specs.Lanes.{how_many, pair_at}
use Rattle.banks.specs.Bank.{pair_of}
use Rattle.banks.specs.Line.{addresses, has, distinct}
use Rattle.terms.specs.declared.Way.{Way}
use Rattle.words.specs.Fields.{fields_of}
use Rattle.words.specs.Table.{decode_of}
use Rattle.terms.specs.Counts.{none, plus}
use Rattle.terms.specs.declared.Counts.{Counts}
use Rattle.terms.specs.declared.Refusal.{Refusal}
use Rattle.words.specs.Address.{Address}
use Rattle.words.specs.Address as A
use Rattle.words.specs.Second.{Second}
use Rattle.words.specs.Second as S
use Rattle.words.specs.Vector.{Vector}
use Rattle.words.specs.Vector as W
use Rattle.words.specs.Insn.{Insn}
use Rattle.words.specs.Insn as N
use Rattle.words.specs.Decoded as D
use Rattle.pieces.specs.State.{State, Sized}
use Rattle.pieces.specs.Place.{Place, Xlat, xlat, vec, get}
use Rattle.model.specs.Prog.{run, asked, spots}
use Rattle.model.specs.Step.{sem, step_x, counts_x, stepped, counted, Outcome, outcome, refusal, step_of}
use Rattle.model.specs.Run.{RunOutcome, ended, run_of}
use Rattle.model.specs.Table.{addr_in, code_in, reads, writes}

-- ---- Demand 1: any word, side input and lent memory gets an answer; it is refused by document 01's numbers exactly under their
-- conditions; a refusal changes nothing, and a refused list keeps the steps before it

-- "opcode below 0x80 or above 0xdf"
abbrev pub foreign : ℕ → Bool
foreign op = ltb op 0x80 || ltb 0xdf op

-- "thirty-five opcodes from 0x80 to 0xbf (low digit 8 to f in each of the four rows, and 94, a4, a5) and 24 from 0xc0 to 0xdf (all but
-- c3, c7, c8, c9, ce, cf, d7, db)"
abbrev pub documented : ℕ → Bool
documented op =
    cond (ltb op 0xc0)
    (leb 8 (op % 16) || has op (0x94 ∷ 0xa4 ∷ 0xa5 ∷ []))
    (not (has op (0xc3 ∷ 0xc7 ∷ 0xc8 ∷ 0xc9 ∷ 0xce ∷ 0xcf ∷ 0xd7 ∷ 0xdb ∷ [])))

-- the instructions that use SRC2S: lda and sta by a register, aadd, add
abbrev pub sided_ops : List ℕ
sided_ops = 0xc0 ∷ 0xc1 ∷ 0xc2 ∷ 0xc4 ∷ 0xc5 ∷ 0xc6 ∷ 0xca ∷ 0xcb ∷ []

abbrev pub sided : ℕ → Bool
sided op = has op sided_ops

-- vcmpad
abbrev pub masked : ℕ → Bool
masked op = eqb op 0x8f

-- document 01's table of answer numbers, "Given exactly when": of the number n that the single call gives
pub record Exactly (n op side mask : ℕ) (s : State) : Type 0 where
  -- "one of the six pieces has another length"
  pub five : (n ≡ 5) ↔ (Sized s → ⊥)
  -- "opcode below 0x80 or above 0xdf"
  pub one : (n ≡ 1) ↔ (Sized s × (foreign op ≡ true))
  -- "opcode from 0x80 to 0xdf, not documented"
  pub two : (n ≡ 2) ↔ (Sized s × (foreign op ≡ false) × (documented op ≡ false))
  -- "instruction uses SRC2S, side index above 31"
  pub three : (n ≡ 3) ↔ (Sized s × (sided op ≡ true) × (31 < side))
  -- "vcmpad, side mask word above 0x1ffff"
  pub four : (n ≡ 4) ↔ (Sized s × (masked op ≡ true) × (0x1ffff < mask))
  -- "done": none of these
  pub zero : (n ≡ 0)
      ↔ (Sized s × (foreign op ≡ false) × (documented op ≡ true) × (sided op ≡ true → side ≤ 31) × (masked op ≡ true → mask ≤ 0x1ffff))

-- the single call
pub record Answered (word side mask : ℕ) (s : State) : Type 0 where
  pub number : Exactly (step_of word side mask s).number (fields_of word).op side mask s
  pub unchanged : ((step_of word side mask s).number ≡ 0 → ⊥) → step_of word side mask s ≡ outcome (step_of word side mask s).number none s

-- the list call: "5, then 6, are checked once at the start"
pub record Starts (ws : List ℕ) (s : State) (m : ℕ) : Type 0 where
  pub five : (m ≡ 5) ↔ (Sized s → ⊥)
  pub six : (m ≡ 6) ↔ (Sized s × (length ws % 3 ≡ 0 → ⊥))

-- the single call for triple n of a list, in t
abbrev pub call_at : ℕ → List ℕ → State → Outcome
call_at n ws t = step_of (get_or ws (n * 3) 0) (get_or ws (n * 3 + 1) 0) (get_or ws (n * 3 + 2) 0) t

-- the state in which triple n is met: what the calls for the n triples before it leave, one after the other
abbrev pub met_at : ℕ → List ℕ → State → State
met_at zero ws s = s
met_at (suc n) ws s = (call_at n ws (met_at n ws s)).after

-- what those n calls count
abbrev pub count_at : ℕ → List ℕ → State → Counts
count_at zero ws s = none
count_at (suc n) ws s = plus (count_at n ws s) (call_at n ws (met_at n ws s)).counts

-- each of the first n triples is accepted where it is met
abbrev pub AllDone : ℕ → List ℕ → State → Type 0
AllDone n ws s = (i : ℕ) → i < n → (call_at i ws (met_at i ws s)).number ≡ 0

-- a run has done n triples, within the budget
pub record Comes (budget : ℕ) (ws : List ℕ) (s : State) (n : ℕ) : Type 0 where
  pub sized : Sized s
  pub whole : length ws % 3 ≡ 0
  pub budgeted : n ≤ budget
  pub listed : n * 3 ≤ length ws
  pub done : AllDone n ws s

-- "Before each triple: all done gives 0;
pub record Finished (budget : ℕ) (ws : List ℕ) (s : State) (n : ℕ) : Type 0 where
  pub comes : Comes budget ws s n
  pub all : n * 3 ≡ length ws

-- else steps equal to the budget gives 7;
pub record Spent (budget : ℕ) (ws : List ℕ) (s : State) (n : ℕ) : Type 0 where
  pub comes : Comes budget ws s n
  pub left : n * 3 < length ws
  pub spent : n ≡ budget

-- else one step", which is refused: the first that is, since all before it are done
pub record Stopped (k : Refusal) (budget : ℕ) (ws : List ℕ) (s : State) (n : ℕ) : Type 0 where
  pub comes : Comes budget ws s n
  pub left : n * 3 < length ws
  pub due : n < budget
  pub refused : (call_at n ws (met_at n ws s)).number ≡ refusal k

-- o has the number e exactly where P holds of some n; and then it is what the first n triples leave, with n steps done
pub record ExactlyAt (ws : List ℕ) (s : State) (o : RunOutcome) (e : ℕ) (P : ℕ → Type 0) : Type 0 where
  pub only : o.number ≡ e → (n : ℕ) × P n
  pub leaves : (n : ℕ) → P n → o ≡ ended e n (count_at n ws s) (met_at n ws s)

pub record ListAnswered (budget : ℕ) (ws : List ℕ) (s : State) : Type 0 where
  pub starts : Starts ws s (run_of budget ws s).number
  -- "with 5 or 6 both are 0", and the pieces are untouched
  pub untouched : (Sized s × (length ws % 3 ≡ 0) → ⊥) → run_of budget ws s ≡ ended (run_of budget ws s).number 0 none s
  pub zero : ExactlyAt ws s (run_of budget ws s) 0 (Finished budget ws s)
  pub seven : ExactlyAt ws s (run_of budget ws s) 7 (Spent budget ws s)
  pub one_to_four : (k : Refusal) → ExactlyAt ws s (run_of budget ws s) (refusal k) (Stopped k budget ws s)

pub record Demand1 : Type 0 where
  pub step : (word side mask : ℕ) (s : State) → Answered word side mask s
  pub list : (budget : ℕ) (ws : List ℕ) (s : State) → ListAnswered budget ws s

-- ---- Demand 2: every accepted instruction gives document 01's registers, flags and data store; a list gives what its steps give one
-- after the other; the accesses reported are the distinct (bank, cell) pairs of the address lists, the clipped components those whose true
-- result lay outside the clip range

-- an accepted word is an instruction, whose meaning `stepped` the call gives
pub record Does (word side mask : ℕ) (s : State) : Type 0 where
  pub insn : Insn
  pub decoded : decode_of word side mask ≡ D.Insn insn
  pub gives : step_of word side mask s ≡ outcome 0 (counted insn s) (stepped insn s)

-- the (bank, cell) pairs of an access's address list
abbrev pub pairs_at : Way → ℕ → ℕ → List ℕ
pairs_at way c x = map (pair_of c) (addresses way c x)

abbrev pub pairs_a : Address → State → List ℕ
pairs_a (A.Set o) s = []
pairs_a (A.Add o) s = []
pairs_a (A.Bitop o) s = []
pairs_a (A.Aadd o) s = []
pairs_a (A.Ld o) s = pairs_at o.way (code_in s o.base) (bit_or (addr_in s o.base) o.uimm)
pairs_a (A.St o) s = pairs_at o.way (code_in s o.base) (bit_or (addr_in s o.base) o.uimm)
pairs_a (A.Lda o) s = pairs_at o.way (code_in s o.base) (addr_in s o.base)
pairs_a (A.Sta o) s = pairs_at o.way (code_in s o.base) (addr_in s o.base)

abbrev pub pairs : Insn → State → List ℕ
pairs (N.Address i) s = pairs_a i s
pairs (N.Vector i) s = []
pairs N.Nop s = []

-- the sixteen bytes of $v[n], and component i of them
abbrev pub bytes_of : State → ℕ → List ℕ
bytes_of s n = get xlat (vec n) s

abbrev pub component : State → ℕ → ℕ → ℕ
component s n i = get_or (bytes_of s n) i 0

-- component i of source 2: a register's, or BIMM; vabs and vneg have none
abbrev pub second_at : Second → State → ℕ → ℕ
second_at (S.Register n) s i = component s n i
second_at (S.Byte b) s i = b
second_at S.Absent s i = 0

-- the nine bits that vadd9 adds to component i: source 2 feeds components 0-7, source 3 feeds 8-15
abbrev pub addend : State → ℕ → ℕ → ℕ → ℕ
addend s src2 src3 i = cond (ltb i 8) (pair_at (bytes_of s src2) i) (pair_at (bytes_of s src3) (i - 8))

-- "For vadd, vsub, vneg, vabs and vadd9 .. whether the true result lay outside the clip range", of component i; "all others count 0"
abbrev pub clips_v : Vector → State → ℕ → Bool
clips_v (W.Arith o) s i =
    tells o.calc
    && outside o.signed (result o.calc (widen o.signed (component s o.src1 i)) (widen o.signed (second_at o.second s i)))
clips_v (W.Add9 o) s i = outside false (pos (component s o.src1 i) +ℤ sext (addend s o.src2 o.src3 i) 8)
clips_v (W.Shift o) s i = false
clips_v (W.Clip o) s i = false
clips_v (W.MinAbs o) s i = false
clips_v (W.Bitop o) s i = false
clips_v (W.Logic o) s i = false
clips_v (W.Cmpad o) s i = false
clips_v (W.Swz o) s i = false
clips_v (W.Mov o) s i = false
clips_v (W.MovImm o) s i = false
clips_v (W.MovFlags dst) s i = false

abbrev pub clips : Insn → State → ℕ → Bool
clips (N.Address i) s k = false
clips (N.Vector i) s k = clips_v i s k
clips N.Nop s k = false

-- o stops where document 01 says, with its number: after all triples, where the budget is spent, or before the first triple that is refused.
-- Each says `Comes`: so many triples as o reports are done
pub data Ends (budget : ℕ) (ws : List ℕ) (s : State) (o : RunOutcome) : Type 0 where
  finished : o.number ≡ 0 → Finished budget ws s o.steps → Ends budget ws s o
  spent : o.number ≡ 7 → Spent budget ws s o.steps → Ends budget ws s o
  stopped : (k : Refusal) → o.number ≡ refusal k → Stopped k budget ws s o.steps → Ends budget ws s o

-- a list of right lengths, however it ends: it neither skips a triple nor stops early, and it leaves and counts what the calls for the
-- triples done leave and count, one after the other. One o only is so: `one_outcome` in proofs/Listed.antt
pub record OneByOne (budget : ℕ) (ws : List ℕ) (s : State) (o : RunOutcome) : Type 0 where
  pub ends : Ends budget ws s o
  pub leaves : o ≡ ended o.number o.steps (count_at o.steps ws s) (met_at o.steps ws s)

pub record Demand2 : Type 0 where
  pub step : (word side mask : ℕ) (s : State) → (step_of word side mask s).number ≡ 0 → Does word side mask s
  pub accesses : (i : Insn) (s : State) → (counted i s).accesses ≡ distinct (pairs i s)
  -- wish 4: "the step's answer gives how many of the 16 did, and the run the total"
  pub clipped : (i : Insn) (s : State) → (counted i s).clipped ≡ how_many 16 (clips i s)
  pub list : (budget : ℕ) (ws : List ℕ) (s : State) → Sized s → length ws % 3 ≡ 0 → OneByOne budget ws s (run_of budget ws s)

-- ---- Demand 3: two accepted instructions, neither of which writes a place that the other reads or writes, end in the same state in both
-- orders, which is demand 2's; also in a list

-- no place is in both lists
abbrev pub Apart : List Place → List Place → Type 0
Apart ps qs = (p : Place) → Memᴰ p ps → Memᴰ p qs → ⊥

-- neither writes a place that the other reads or writes, worked out in s
pub record Free (X : Xlat) (i j : Insn) (s : State) : Type 0 where
  pub first : Apart (writes X i s) (reads X j s ++ writes X j s)
  pub second : Apart (writes X j s) (reads X i s ++ writes X i s)

-- both orders end in one state, and each step's counts are the same in both
pub record Commute (X : Xlat) (i j : Insn) (s : State) : Type 0 where
  pub state : step_x X j (step_x X i s) ≡ step_x X i (step_x X j s)
  pub later : counts_x X j (step_x X i s) ≡ counts_x X j s
  pub earlier : counts_x X i (step_x X j s) ≡ counts_x X i s

abbrev pub Exchange : Xlat → Type 0
Exchange X = (i j : Insn) (s : State) → Free X i j s → Commute X i j s

-- the table of places, written without an instruction's meaning, is what the meaning asks and writes: "Nothing else."
pub record Tabled (i : Insn) (s : State) : Type 0 where
  pub reads_are : asked xlat (sem i) s ≡ reads xlat i s
  pub writes_are : spots xlat (run xlat (sem i) s).writes ≡ writes xlat i s

-- two triples in this order: both are accepted, and count and leave what demand 2 says
pub record InOrder (w side mask w' side' mask' : ℕ) (i j : Insn) (s : State) : Type 0 where
  pub first : step_of w side mask s ≡ outcome 0 (counted i s) (stepped i s)
  pub second : step_of w' side' mask' (stepped i s) ≡ outcome 0 (counted j s) (stepped j (stepped i s))

-- both orders are accepted, each step counts the same in both, and they end in one state
pub record Swapped (w side mask w' side' mask' : ℕ) (i j : Insn) (s : State) : Type 0 where
  pub one : InOrder w side mask w' side' mask' i j s
  pub other : InOrder w' side' mask' w side mask j i s
  pub same : stepped j (stepped i s) ≡ stepped i (stepped j s)

-- what stands before two triples ran to its end with o, and the budget is not spent: so the first of them, in either order, is met in the
-- state of o. There they are free, and the budget does not end between them. Where it does, each order does its first triple alone, and
-- they may leave different states even of free instructions: `budget_between`, `between_free` in proofs/Neighbours.antt
pub record MetFree (budget : ℕ) (i j : Insn) (o : RunOutcome) : Type 0 where
  pub free : Free xlat i j o.after
  pub budgeted : o.steps + 1 ≡ budget → ⊥

pub record Demand3 : Type 0 where
  pub table : (i : Insn) (s : State) → Tabled i s
  pub insns : Exchange xlat
  pub triples : (w side mask w' side' mask' : ℕ) (i j : Insn) (s : State) → Sized s
      → decode_of w side mask ≡ D.Insn i → decode_of w' side' mask' ≡ D.Insn j → Free xlat i j s → Swapped w side mask w' side' mask' i j s
  -- two neighbouring triples of a list, both instructions. No more is asked of them where the run of what stands before them ends with
  -- another number than 0, or has used the whole budget: it is over before it comes to them
  pub list : (budget w side mask w' side' mask' : ℕ) (i j : Insn) (before rest : List ℕ) (s : State)
      → decode_of w side mask ≡ D.Insn i → decode_of w' side' mask' ≡ D.Insn j → length before % 3 ≡ 0
      → ((run_of budget before s).number ≡ 0 → (run_of budget before s).steps < budget → MetFree budget i j (run_of budget before s))
      → run_of budget (before ++ w ∷ side ∷ mask ∷ w' ∷ side' ∷ mask' ∷ rest) s
      ≡ run_of budget (before ++ w' ∷ side' ∷ mask' ∷ w ∷ side ∷ mask ∷ rest) s
