-- Only one outcome fits a call: two outcomes that meet the call's own contract, at the same arguments, are equal.
-- `Post` is what the toolchain reads off the contract in src/lib.rt: of the lifetimes, the arguments, the result and the parameters at exit.
use mathlib.Core.Path.{◌≡◌, sym, ◌∙◌, ap, ap₂}
use Prim.Native.Nat.{ℕ}
use contract.Lifetimes.{Lfts}
use denote.Triple.Clauses.{AtExit}
use denote.Triple.Entry.{Args}
use Rattle.terms.proofs.Inverse.{number_inj}
use Rattle.terms.specs.declared.End.{End}
use Rattle.names.specs.Calls.{Wrote, Got}
use Rattle.names.specs.declared.Written.{Written}
use Rattle.names.specs.declared.Read.{Read}
use Rattle.names.specs.contracts.write_line as W
use Rattle.names.proofs.write_line.Reads as WR
use Rattle.names.specs.contracts.read_line as R
use Rattle.names.proofs.read_line.Reads as RR

-- write_line: the output at exit is its last parameter
pub one_write : (κs : Lfts 1) (args : Args W.signature κs) (x y : Written) (e f : AtExit W.ended κs) → WR.Post κs args x e → WR.Post κs args y f
    → (x ≡ y) × (e.1.0.now ≡ f.1.0.now)
one_write κs args x y e f h k =
    let q = h ∙ sym k in
    let end = number_inj x.end y.end (ap (λ (o : Wrote). o.answer) q) in
    (ap₂ (λ (e : End) (n : ℕ). record { end = e; length = n }) end (ap (λ (o : Wrote). o.bytes) q), ap (λ (o : Wrote). o.after) q)

pub one_read : (κs : Lfts 1) (args : Args R.signature κs) (x y : Read) (e f : AtExit R.ended κs) → RR.Post κs args x e → RR.Post κs args y f → x ≡ y
one_read κs args x y e f h k =
    let q = h ∙ sym k in
    let end = number_inj x.end y.end (ap (λ (o : Got). o.answer) q) in
    ap₂ (λ (e : End) (w : ℕ). record { end = e; word = w }) end (ap (λ (o : Got). o.word) q)
