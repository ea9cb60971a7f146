-- `names::take::one_operand` meets its contract: what is gathered so far and what is left to gather make the whole.
use mathlib.Core.List.{List}
use Prim.Native.Nat.{ℕ}
use native.Mathlib.Omega.{arith}
use lib.ListN.{drop}
use Rattle.names.specs.Inner.Scan.{split, present}
use Rattle.names.specs.Inner.Code.{slot_at}
use Rattle.names.proofs.Gathered.{gather_absent, gather_on, one_less, present_of, was_false, was_true}
use Rattle.names.proofs.take.one_operand.Goals as goal

pub returns-then-absent : goal.returns-then-absent
returns-then-absent c = (
  c.requires.0,
  c.requires.1,
  omega arith,
  λ os e. gather_absent c.args.o os (split (drop c.args.s.at c.args.text.now)).1 c.args.s.word
      (present_of (slot_at c.args.o).kind c.args.after c.args.s.left _ os (split (drop c.args.s.at c.args.text.now)).1 e c.requires.1 (was_false (present (slot_at c.args.o).kind c.args.after c.args.s.left) c.absent.result c.absent.ensures c.if-absent.true)),
)

pub returns : goal.returns
returns c =
    let n = c.next-p in let ts : List (List ℕ) = (split (drop c.args.s.at c.args.text.now)).1 in let us = split (drop n.result c.args.text.now) in (
      n.ensures.0,
      one_less ts c.args.s.left c.saturating_sub.result us n.ensures.1 c.requires.1 c.saturating_sub.ensures,
      omega (arith, c.taken-v.ensures.1),
      λ os e. gather_on c.args.o os ts c.args.s.word c.taken-v.result us c.if-o-eq0.false
          (present_of (slot_at c.args.o).kind c.args.after c.args.s.left _ os ts e c.requires.1 (was_true (present (slot_at c.args.o).kind c.args.after c.args.s.left) c.absent.result c.absent.ensures c.if-absent.false))
          n.ensures.1 c.taken-v.ensures.0,
    )
