-- Only one outcome fits a call: two outcomes that meet the call's own contract, at the same arguments, are equal.
-- `Post` is what the toolchain reads off the contract in src/lib.rt: of the lifetimes, the arguments, the result and the parameters at exit.
use mathlib.Core.Path.{◌≡◌, sym, ◌∙◌, ap}
use contract.Lifetimes.{Lfts}
use denote.Triple.Clauses.{AtExit}
use denote.Triple.Entry.{Args}
use Rattle.pieces.specs.State.{State, state}
use Rattle.parts.specs.Run.{Handed}
use Rattle.parts.specs.declared.Run.{Run}
use Rattle.parts.specs.contracts.begin as B
use Rattle.parts.proofs.begin.Reads as BR
use Rattle.parts.specs.contracts.part as P
use Rattle.parts.proofs.part.Reads as PR
use Rattle.parts.specs.contracts.end as E
use Rattle.parts.proofs.end.Reads as ER

pub one_begin : (κs : Lfts 0) (args : Args B.signature κs) (x y : Run) (e f : AtExit B.ended κs) → BR.Post κs args x e → BR.Post κs args y f → x ≡ y
one_begin κs args x y e f h k = h ∙ sym k

-- the six pieces at exit are the last six parameters
abbrev fed : (κs : Lfts 7) → AtExit P.ended κs → State
fed κs e = state e.1.1.0.now e.1.1.1.0.now e.1.1.1.1.0.now e.1.1.1.1.1.0.now e.1.1.1.1.1.1.0.now e.1.1.1.1.1.1.1.0.now

pub one_part : (κs : Lfts 7) (args : Args P.signature κs) (x y : Run) (e f : AtExit P.ended κs) → PR.Post κs args x e → PR.Post κs args y f
    → (x ≡ y) × (fed κs e ≡ fed κs f)
one_part κs args x y e f h k = let q = h ∙ sym k in (ap (λ (z : Handed). z.run) q, ap (λ (z : Handed). z.after) q)

pub one_end : (κs : Lfts 0) (args : Args E.signature κs) (x y : Run) (e f : AtExit E.ended κs) → ER.Post κs args x e → ER.Post κs args y f → x ≡ y
one_end κs args x y e f h k = h ∙ sym k
