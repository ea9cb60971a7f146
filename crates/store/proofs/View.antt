-- The raw view: only one outcome fits its own contract, and it shows the bank's own bytes.
-- `Post` is what the toolchain reads off the contract in src/lib.rt: of the lifetimes, the arguments, the result and the parameters at exit.
use mathlib.Core.Path.{◌≡◌, sym, ◌∙◌}
use mathlib.Core.List.{List}
use Prim.Native.Nat.{ℕ, ◌+◌, ◌*◌, ◌<◌}
use native.Mathlib.Omega.{arith}
use borrow.Author.Tests.{lt-ltb, eq-eqb}
use lib.ListN.{length, get_or, take, drop, length-take, length-drop}
use lib.Seq.{get_or-drop, get_or-take}
use contract.Lifetimes.{Lfts}
use denote.Triple.Clauses.{AtExit}
use denote.Triple.Entry.{Args, Res}
use Rattle.banks.specs.Bank.{place_of}
use Rattle.store.specs.Store.{bank_view}
use Rattle.store.specs.contracts.bank_view as B
use Rattle.store.proofs.bank_view.Reads as BR

pub one_view : (κs : Lfts 1) (args : Args B.signature κs) (x y : Res B.signature κs) (e f : AtExit B.ended κs) → BR.Post κs args x e → BR.Post κs args y f → x.now ≡ y.now
one_view κs args x y e f h k = h ∙ sym k

module _ (ds : List ℕ) (b : ℕ) (whole : length ds ≡ 8192) (h : b < 16) where
  part : bank_view ds b ≡ take 512 (drop (b * 512) ds)
  unfolding bank_view
  part = rw (eq-eqb (length ds) 8192 whole, lt-ltb b 16 h)

  pub view_length : length (bank_view ds b) ≡ 512
  view_length = rw part (simp (length-take, length-drop) (omega arith))

  -- the byte of a cell and a half, seen in its bank's view
  pub view_shows : (k l : ℕ) → k < 256 → l < 2 → get_or (bank_view ds b) (k * 2 + l) 0 ≡ get_or ds (place_of b k l) 0
  unfolding place_of
  view_shows k l hk hl =
      let i : k * 2 + l < 512 = omega arith in
      let e : b * 512 + (k * 2 + l) ≡ b * 512 + k * 2 + l = omega arith in
      rw (part, get_or-take, get_or-drop, e)
