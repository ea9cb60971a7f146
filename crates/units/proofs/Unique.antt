-- Only one outcome fits `triple`: two outcomes that meet its own contract, at the same arguments, are equal.
-- `Post` is what the toolchain reads off the contract in src/lib.rt: of the lifetimes, the arguments, the result and the parameters at exit.
use mathlib.Core.Path.{◌≡◌, sym, ◌∙◌, ap}
use contract.Lifetimes.{Lfts}
use denote.Triple.Clauses.{AtExit}
use denote.Triple.Entry.{Args}
use Rattle.std.specs.declared.result.Result.{Result}
use Rattle.terms.specs.declared.Counted.{Counted}
use Rattle.terms.specs.declared.Refusal.{Refusal}
use Rattle.pieces.specs.State.{State, state}
use Rattle.units.specs.Inner.Answers.{Answered}
use Rattle.units.specs.contracts.triple as T
use Rattle.units.proofs.triple.Reads as TR

-- the six pieces at exit are its last six parameters
abbrev after : (κs : Lfts 6) → AtExit T.ended κs → State
after κs e =
    state e.1.1.1.0.now e.1.1.1.1.0.now e.1.1.1.1.1.0.now e.1.1.1.1.1.1.0.now e.1.1.1.1.1.1.1.0.now
    e.1.1.1.1.1.1.1.1.0.now

pub one_triple : (κs : Lfts 6) (args : Args T.signature κs) (x y : Result Counted Refusal) (e f : AtExit T.ended κs) → TR.Post κs args x e → TR.Post κs args y f
    → (x ≡ y) × (after κs e ≡ after κs f)
one_triple κs args x y e f h k =
    let q = h ∙ sym k in (ap (λ (a : Answered). a.answer) q, ap (λ (a : Answered). a.after) q)
