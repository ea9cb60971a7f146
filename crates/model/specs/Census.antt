-- A census: which banks a run's accesses entered, and how often each way was gone under each stride code. Document 02, wish 6.
use Rattle.std.specs.Prelude.{ℕ, zero, suc, ◌+◌, ◌*◌, ◌%◌, cond, ◌&&◌, List, [], ◌∷◌, map, eqb, length}
use Rattle.terms.specs.Answers.{number}
use Rattle.terms.specs.Counts.{none}
use Rattle.terms.specs.declared.End.TheVariants as E
use Rattle.terms.specs.declared.Way.{Way}
use Rattle.terms.specs.declared.Way.TheVariants.{Horizontal, Vertical, Scalar}
use Rattle.banks.specs.Bank.{pair_of}
use Rattle.banks.specs.Line.{from, distinct, of_bank}
use Rattle.words.specs.Table.{decode_of}
use Rattle.words.specs.Insn.{Insn}
use Rattle.words.specs.Decoded.{Decoded}
use Rattle.words.specs.Decoded as D
use Rattle.pieces.specs.State.{State, sized_of}
use Rattle.pieces.specs.Place.{Addr, xlat}
use Rattle.model.specs.Prog.{run, Access, idle, load, store}
use Rattle.model.specs.Step.{did, stepped}
use Rattle.model.specs.Run.{Triple, triples, RunOutcome, ended, run_of}

-- ---- "the steps done of a run"

-- a step done: its instruction, and the state that it met
pub record Met : Type 0 where
  pub insn : Insn
  pub before : State

-- a refused triple is no step done, and ends the run
abbrev pub met_by : Decoded → State → (State → List Met) → List Met
met_by (D.Insn i) s rest = record { insn = i; before = s } ∷ rest (stepped i s)
met_by (D.Refused k) s rest = []

-- after n steps under a budget
unfoldable pub met_from : ℕ → List Triple → ℕ → State → List Met
met_from budget [] n s = []
met_from budget (t ∷ ts) n s = cond (eqb n budget) [] (met_by (decode_of t.word t.side t.mask) s (met_from budget ts (n + 1)))

-- of a list call: none on 5 and 6
unfoldable pub met_of : ℕ → List ℕ → State → List Met
met_of budget ws s = cond (sized_of s) (cond (eqb (length ws % 3) 0) (met_from budget (triples ws) 0 s) []) []

-- ---- the figures of one access, "from the address lists"

-- the access that a step made
abbrev pub accessed : Met → Access
accessed m = (run xlat (did m.insn) m.before).access

-- the (bank, cell) pairs of an address list
abbrev pub pairs_of : List Addr → List ℕ
pairs_of bs = map (λ (b : Addr). pair_of b.stride b.addr) bs

-- "how many distinct (bank, cell) pairs": those of bank k
abbrev pub in_bank : ℕ → Access → ℕ
in_bank k idle = 0
in_bank k (load way c bs) = distinct (of_bank k (pairs_of bs))
in_bank k (store way c bs) = distinct (of_bank k (pairs_of bs))

-- "for codes 0 to 3 vertical, horizontal, scalar": the figure of a way under a code. A code above 3 counts as 3, as in translation
abbrev pub way_number : Way → ℕ
way_number Vertical = 0
way_number Horizontal = 1
way_number Scalar = 2

abbrev pub code_number : ℕ → ℕ
code_number zero = 0
code_number (suc zero) = 1
code_number (suc (suc zero)) = 2
code_number (suc (suc (suc c))) = 3

abbrev pub figure_of : Way → ℕ → ℕ
figure_of way c = code_number c * 3 + way_number way

-- an access is one of its way and code
abbrev pub by_way : ℕ → Access → ℕ
by_way k idle = 0
by_way k (load way c bs) = cond (eqb (figure_of way c) k) 1 0
by_way k (store way c bs) = cond (eqb (figure_of way c) k) 1 0

-- ---- "summed over the steps"

abbrev pub sum_over : (Access → ℕ) → List Met → ℕ
sum_over f [] = 0
sum_over f (m ∷ ms) = f (accessed m) + sum_over f ms

-- the sixteen figures, and the twelve
unfoldable pub bank_figures : List Met → List ℕ
bank_figures ms = map (λ k. sum_over (in_bank k) ms) (from 0 16)

unfoldable pub way_figures : List Met → List ℕ
way_figures ms = map (λ k. sum_over (by_way k) ms) (from 0 12)

-- ---- the call

-- what it leaves: all that the run leaves, and the figures
pub record CensusOutcome : Type 0 where
  pub ran : RunOutcome
  pub banks : List ℕ
  pub ways : List ℕ

abbrev pub taken : RunOutcome → List ℕ → List ℕ → CensusOutcome
taken o bs ys = record { ran = o; banks = bs; ways = ys }

-- "5 also for another length of these two, which are then untouched"; else the list call's outcome, with the figures of the steps done
unfoldable pub census_of : ℕ → List ℕ → State → List ℕ → List ℕ → CensusOutcome
census_of budget ws s bs ys =
    cond (eqb (length bs) 16 && eqb (length ys) 12)
    (taken (run_of budget ws s) (bank_figures (met_of budget ws s)) (way_figures (met_of budget ws s)))
    (taken (ended (number E.Lengths) 0 none s) bs ys)
