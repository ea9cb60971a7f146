-- Which access each instruction makes, and what it adds to the figures of a census: one to each bank that it enters, for every address.
use mathlib.Core.Path.{◌≡◌, refl, ap, ◌∙◌}
use Prim.Native.Nat.{ℕ, suc, ◌+◌, ◌*◌, ◌%◌, ◌<◌}
use native.Mathlib.Omega.{arith}
use mathlib.Core.Bool.{cond}
use mathlib.Core.List.{List, map-map}
use borrow.Author.Tests.{lt-ltb}
use lib.Bits.{bit_or}
use lib.Dec.{ltb, lit<}
use Rattle.terms.specs.declared.Way.{Way}
use Rattle.terms.specs.declared.Way.TheVariants.{Horizontal, Vertical, Scalar}
use Rattle.banks.specs.Bank.{pair_of, bank_of}
use Rattle.banks.specs.Line.{distinct, of_bank, stride_of, column_start, word_start, start_of, addresses}
use Rattle.banks.specs.Inner.Access.{cells_of, behind}
use Rattle.banks.proofs.Banks.{column0_bank}
use Rattle.banks.proofs.PerBank.{per_bank}
use Rattle.words.specs.Address.{Address}
use Rattle.words.specs.Address as A
use Rattle.words.specs.Insn.{Insn}
use Rattle.words.specs.Insn as N
use Rattle.pieces.specs.State.{State}
use Rattle.pieces.specs.Place.{Addr, xlat}
use Rattle.model.specs.Prog.{Prog, ◌>>=◌, run, Access, idle, load, store, Did}
use Rattle.model.specs.Address.{Base, base, address, increment, span, loads, from}
use Rattle.model.specs.Census.{accessed, pairs_of, in_bank}
use Rattle.model.proofs.Laws.{run_bind}
use Rattle.model.proofs.Cells.{vector_idle}

-- ---- the access of each instruction, on a state

-- $a[n] of a state
abbrev pub base_in : ℕ → State → Base
base_in n s = run xlat (base n) s

abbrev pub access_a : Address → State → Access
access_a (A.Set o) s = idle
access_a (A.Add o) s = idle
access_a (A.Bitop o) s = idle
access_a (A.Aadd o) s = idle
access_a (A.Ld o) s = let b = base_in o.base s in load o.way b.stride (span o.way b.stride (bit_or b.addr o.uimm))
access_a (A.St o) s = let b = base_in o.base s in store o.way b.stride (span o.way b.stride (bit_or b.addr o.uimm))
access_a (A.Lda o) s = let b = base_in o.base s in load o.way b.stride (span o.way b.stride b.addr)
access_a (A.Sta o) s = let b = base_in o.base s in store o.way b.stride (span o.way b.stride b.addr)

abbrev pub access_of : Insn → State → Access
access_of (N.Address i) s = access_a i s
access_of (N.Vector i) s = idle
access_of N.Nop s = idle

module _ (s : State) where
  -- a program that goes on makes the access of its second part
  onward_is : {Y : Type 0} (m : Prog Y) (f : Y → Prog Did) → (run xlat (m >>= f) s).access ≡ (run xlat (f (run xlat m s)) s).access
  onward_is m f = ap (λ (d : Did). d.access) (run_bind xlat m f s)

  addressed_is : (i : Address) → (run xlat (address i) s).access ≡ access_a i s
  addressed_is (A.Set o) = refl
  addressed_is (A.Add o) = refl
  addressed_is (A.Bitop o) = refl
  addressed_is (A.Aadd o) = refl
  addressed_is (A.Ld o) = onward_is (loads (span o.way _ _)) _
  addressed_is (A.St o) = onward_is (from o.way o.reg) _
  addressed_is (A.Lda o) = onward_is (increment o.inc) _ ∙ onward_is (loads (span o.way _ _)) _
  addressed_is (A.Sta o) = onward_is (increment o.inc) _ ∙ onward_is (from o.way o.reg) _

  pub access_is : (i : Insn) → accessed (record { insn = i; before = s }) ≡ access_of i s
  access_is (N.Address i) = addressed_is i
  access_is (N.Vector i) = vector_idle xlat s i
  access_is N.Nop = refl

-- ---- what an access at x adds to the figure of bank k

abbrev pub adds : Way → ℕ → ℕ → ℕ → ℕ
adds way c x k = cond (ltb (behind k (bank_of c (start_of way c x))) (cells_of way c)) 1 0

spanned : (way : Way) (c x k : ℕ) → k < 16 → distinct (of_bank k (pairs_of (span way c x))) ≡ adds way c x k
spanned way c x k h =
    ap (λ (l : List ℕ). distinct (of_bank k l)) (map-map (λ (b : Addr). pair_of b.stride b.addr) (λ y. record { stride = c; addr = y }) (addresses way c x))
    ∙ per_bank way c x k h

pub load_adds : (way : Way) (c x k : ℕ) → k < 16 → in_bank k (load way c (span way c x)) ≡ adds way c x k
load_adds way c x k h = spanned way c x k h

pub store_adds : (way : Way) (c x k : ℕ) → k < 16 → in_bank k (store way c (span way c x)) ≡ adds way c x k
store_adds way c x k h = spanned way c x k h

-- ---- and in the wish's words: to which banks, for every address

module _ (x k : ℕ) (h : k < 16) where
  -- "a horizontal access adds one to each bank"
  pub horizontal_adds : (c : ℕ) → adds Horizontal c x k ≡ 1
  unfolding cells_of
  horizontal_adds c = rw (lt-ltb (behind k (bank_of c (start_of Horizontal c x))) 16 (omega arith)) refl

  -- "a vertical one under codes 1 to 3 too"
  pub vertical_adds : (c : ℕ) → adds Vertical (suc c) x k ≡ 1
  unfolding cells_of
  vertical_adds c = rw (lt-ltb (behind k (bank_of (suc c) (start_of Vertical (suc c) x))) 16 (omega arith)) refl

  -- "under code 0 one to each of eight banks": those from the address's low four bits on, round the sixteen
  pub vertical0_adds : adds Vertical 0 x k ≡ cond (ltb (behind k (x % 16)) 8) 1 0
  unfolding cells_of start_of
  vertical0_adds = ap (λ (b : ℕ). cond (ltb (behind k b) 8) 1 0) (first ∙ column0_bank x 0 (lit< tt) ∙ omega arith)
    where
      first : bank_of 0 (column_start 0 x) ≡ bank_of 0 (column_start 0 x + 0 * stride_of 0)
      first = ap (bank_of 0) (omega arith)

  -- "a scalar one to four": those from the bank of the word's first address on
  pub scalar_adds : (c : ℕ) → adds Scalar c x k ≡ cond (ltb (behind k (bank_of c (word_start x))) 4) 1 0
  unfolding cells_of start_of
  scalar_adds c = refl
