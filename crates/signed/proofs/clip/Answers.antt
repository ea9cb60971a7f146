-- `signed::clip` meets its contract: a signed parameter and a callee's result are read back as they came.
use mir.Facts.{to_z-of_z}
use Rattle.signed.specs.Signed.{clip}
use Rattle.signed.proofs.Z.{passed}
use Rattle.signed.proofs.clip.Goals as goal

pub returns : goal.returns
unfolding clip
returns c =
    let f = c.ranges in let a = c.pick in let b = c.pick-2 in
    simp (passed b.type_inv b.ensures, passed a.type_inv a.ensures, to_z-of_z f.lo, to_z-of_z f.hi, to_z-of_z f.z)
