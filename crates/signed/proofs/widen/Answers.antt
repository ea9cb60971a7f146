-- `signed::widen` meets its contract.
use Rattle.signed.specs.Signed.{widen}
use Rattle.signed.proofs.Z.{passed}
use Rattle.signed.proofs.widen.Goals as goal

pub returns-then-signed : goal.returns-then-signed
unfolding widen
returns-then-signed c = let s = c.sext in simp c.if-signed.true (passed s.type_inv (rw c.from.ensures at s.ensures))

pub returns-else-signed : goal.returns-else-signed
unfolding widen
returns-else-signed c = let n = c.from-else-signed in simp c.if-signed.false (passed n.type_inv n.ensures)
