-- `parts::sound` meets its contract.
use mathlib.Core.Path.{refl}
use borrow.Author.Rules.{rules}
use Rattle.parts.proofs.sound.Statement.{statement}
use Rattle.parts.proofs.sound.Tie as tie

pub sound_spec : {M : Type 1} → statement M
sound_spec = tie.close (tie.spec (λ c κs. search rules) (λ c κs. search rules) (λ c. rw (c.before.before.within.ensures, c.answer.ensures) refl))
