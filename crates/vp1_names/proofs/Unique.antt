-- Only one outcome fits a call: two outcomes that meet the call's own contract, at the same arguments, agree in the number and in all that is
-- written. `Post` is what the toolchain reads off the contract in src/lib.rt: of the lifetimes, the arguments, the result and the parameters at exit.
use mathlib.Core.Path.{◌≡◌, sym, ◌∙◌, ap}
use Prim.Native.Nat.{ℕ}
use contract.Lifetimes.{Lfts}
use denote.Triple.Clauses.{AtExit}
use denote.Triple.Entry.{Args}
use Rattle.names.specs.Calls.{Wrote, Got}
use Rattle.vp1_names.specs.contracts.vp1_write_line as W
use Rattle.vp1_names.proofs.vp1_write_line.Reads as WR
use Rattle.vp1_names.specs.contracts.vp1_read_line as R
use Rattle.vp1_names.proofs.vp1_read_line.Reads as RR

-- vp1_write_line: the output and the length at exit are its last two parameters
pub one_write : (κs : Lfts 2) (args : Args W.signature κs) (n m : ℕ) (e f : AtExit W.ended κs) → WR.Post κs args n e → WR.Post κs args m f
    → (n ≡ m) × (e.1.1.0.now ≡ f.1.1.0.now) × (e.1.0.now ≡ f.1.0.now)
one_write κs args n m e f h k =
    let q = h ∙ sym k in (ap (λ (o : Wrote). o.answer) q, ap (λ (o : Wrote). o.bytes) q, ap (λ (o : Wrote). o.after) q)

-- vp1_read_line: the word at exit is its last parameter
pub one_read : (κs : Lfts 2) (args : Args R.signature κs) (n m : ℕ) (e f : AtExit R.ended κs) → RR.Post κs args n e → RR.Post κs args m f
    → (n ≡ m) × (e.1.0.now ≡ f.1.0.now)
one_read κs args n m e f h k = let q = h ∙ sym k in (ap (λ (o : Got). o.answer) q, ap (λ (o : Got). o.word) q)
