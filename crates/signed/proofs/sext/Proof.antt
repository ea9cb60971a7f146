-- `signed::sext` meets its contract, at every width up to sixteen bits.
use borrow.Author.Rules.{rules}
use native.Mathlib.Omega.{arith}
use lib.Pow.{pow_pos}
use mir.Facts.{to_z-of_z}
use Rattle.signed.proofs.Z.{half_small, half_is, flipped_is, flipped_small, flipped_z, sext_fits}
use Rattle.signed.proofs.sext.Statement.{statement}
use Rattle.signed.proofs.sext.Tie as tie

pub sext_spec : {M : Type 1} → statement M
sext_spec =
    tie.close
    (tie.spec (λ c. search rules)
    (λ c. rw (half_is c.args.k c.requires) (record { fits = omega (arith, half_small c.args.k c.requires) }))
    (λ c. rw (half_is c.args.k c.requires) (omega (arith, pow_pos c.args.k)))
    (λ c. let k = c.args.k in let h = c.requires in
    rw (half_is k h, flipped_is k h c.args.x) (record { sfits = omega (arith, flipped_small k h c.args.x) }))
    (λ c. let k = c.args.k in let h = c.requires in rw (half_is k h) (record { sfits = omega (arith, half_small k h) }))
    (λ c. let k = c.args.k in let h = c.requires in let x = c.args.x in rw (half_is k h, flipped_is k h x, flipped_z k h x) (sext_fits k h x))
    (λ c. let k = c.args.k in let h = c.requires in let x = c.args.x in rw (half_is k h, flipped_is k h x, flipped_z k h x) (to_z-of_z (sext_fits k h x))))
