-- `signed::shifted` meets its contract, by the law of its shift.
use native.Mathlib.Omega.{arith}
use mir.Facts.{to_z-of_z}
use Rattle.signed.proofs.Z.{neg_back}
use Rattle.signed.proofs.Shift.{raised_fits, shifted_is}
use Rattle.signed.proofs.shifted.Goals as goal

pub returns : goal.returns
returns c =
    let s = c.args.s in let n = c.args.n in
    rw (to_z-of_z c.ranges.s, to_z-of_z c.ranges.n, neg_back n (omega arith), to_z-of_z (raised_fits s n c.requires.0 c.requires.1))
    (shifted_is s n c.requires.0 c.requires.1)
