-- `lane::clamp::sign` meets its contract, by flipped bytes.
use Rattle.std.proofs.Common.{rules}
use Rattle.lane.proofs.Clamped.{clip_sign}
use Rattle.lane.proofs.clamp.sign.Statement.{statement}
use Rattle.lane.proofs.clamp.sign.Tie as tie

pub sign_spec : {M : Type 1} → statement M
sign_spec =
    tie.close
    (tie.spec
    (λ c κs. search rules)
    (λ c. let f = c.before.ranges in rw c.either.ensures (clip_sign _ _ _ f.x.fits f.y.fits f.z.fits)))
