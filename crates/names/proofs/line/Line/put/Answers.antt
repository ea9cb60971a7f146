-- `names::line::Line::put` meets its contract: seven bytes at most, the first of them first.
use native.Mathlib.Omega.{arith}
use lib.ListN.{take}
use Rattle.names.proofs.Packed.{seven}
use Rattle.names.proofs.line.Line.put.Goals as goal

pub returns : goal.returns
returns c =
    let l0 = c.args.self.now in let l1 = c.put_last.new.self in let l2 = c.put_last-2.new.self in let l3 = c.put_last-3.new.self in let l4 = c.put_last-4.new.self in
    let l5 = c.put_last-5.new.self in let l6 = c.put_last-6.new.self in let l7 = c.put_last-7.new.self in
    let e1 = c.put_last.ensures in let e2 = c.put_last-2.ensures in let e3 = c.put_last-3.ensures in let e4 = c.put_last-4.ensures in
    let e5 = c.put_last-5.ensures in let e6 = c.put_last-6.ensures in let e7 = c.put_last-7.ensures in (
      omega (arith, e1.0, e2.0, e3.0, e4.0, e5.0, e6.0, e7.0),
      seven c.args.p (take l0.length l0.buffer) (take l1.length l1.buffer) (take l2.length l2.buffer) (take l3.length l3.buffer) (take l4.length l4.buffer) (take l5.length l5.buffer) (take l6.length l6.buffer) (take l7.length l7.buffer)
          e1.1 e2.1 e3.1 e4.1 e5.1 e6.1 e7.1,
    )
