-- `names::find::found` meets its contract: no opcode so far has this line.
use mathlib.Core.Path.{◌≡◌, ◌∙◌, sym}
use Prim.Native.Nat.{ℕ, ◌≤◌}
use native.Mathlib.Omega.{arith}
use borrow.Author.Count.{below_more}
use Rattle.names.specs.Inner.Code.{tried_at}
use Rattle.names.proofs.Heads.{bears_known}
use Rattle.names.proofs.Reading.{refuses, tried_found, tried_none, passed_over}
use Rattle.names.proofs.find.found.Goals as goal

pub loop-op-init : goal.loop-op-init
loop-op-init c = let p = c.requires in λ k m g. passed_over c.args.text.now c.args.h p.1 k (omega arith) (p.4 k g m)

pub tried-requires : goal.tried-requires
tried-requires c = (omega arith, omega arith, bears_known c.args.h c.loop-op.op c.requires.0 (sym c.head_of.ensures ∙ c.if-head_of-h.false))

pub returns-in-Some : goal.returns-in-Some
returns-in-Some c = let w = c.in-Some in (tried_found c.args.text.now c.loop-op.op (omega arith) w.w w.ensures.0 (omega arith) w.ensures.1, w.ensures.1)

pub loop-op-preserved-then-head_of-h : goal.loop-op-preserved-then-head_of-h
loop-op-preserved-then-head_of-h c =
    let t = c.args.text.now in let op = c.loop-op.op in
    below_more (λ (k : ℕ). 128 ≤ k → tried_at k t ≡ 0) op c.loop-op.invariant (λ g. passed_over t c.args.h c.requires.1 op (omega arith) (λ e. c.if-head_of-h.true (c.head_of.ensures ∙ e)))

pub returns : goal.returns
returns c = sym (refuses c.args.text.now (λ op g m. tried_none c.args.text.now op g m (c.loop-op.invariant op (omega arith) g)))
