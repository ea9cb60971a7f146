-- `names::write_line` meets its contract.
use mathlib.Core.Path.{◌≡◌, ap, ◌∙◌, sym}
use mathlib.Core.List.{List, ◌++◌}
use Prim.Native.Nat.{ℕ}
use lib.ListN.{length, take, drop}
use lib.Seq.{length-take-le}
use native.Mathlib.Omega.{arith}
use Rattle.names.specs.declared.Written.{Written}
use Rattle.names.specs.Calls.{written}
use Rattle.names.proofs.Writing.{has_name, write_foreign, write_none, write_short, write_done}
use Rattle.names.proofs.write_line.Goals as goal

pub returns-then-op : goal.returns-then-op
returns-then-op c = ap (λ (r : Written). written r c.args.out.now) c.unwritten.ensures ∙ write_foreign c.args.word (omega arith) c.args.out.now c.if-op.true

pub returns-then-name_of-eq0 : goal.returns-then-name_of-eq0
returns-then-name_of-eq0 c =
    ap (λ (r : Written). written r c.args.out.now) c.unwritten-then-name_of-eq0.ensures
    ∙ write_none c.args.word (omega arith) c.if-op.false c.args.out.now (sym c.name_of.ensures ∙ c.if-name_of-eq0.true)

pub spelt-line-requires : goal.spelt-line-requires
spelt-line-requires c = has_name c.args.word (omega arith) (λ q. c.if-name_of-eq0.false (c.name_of.ensures ∙ q))

pub returns-then-out-n : goal.returns-then-out-n
returns-then-out-n c =
    let l = c.spelt-line.result in let e = c.spelt-line.ensures in
    let m : length c.bytes-n.result.now ≡ l.length = ap length c.bytes-n.ensures ∙ length-take-le l.length l.buffer (omega (arith, e.0)) in
    ap (λ (r : Written). written r c.args.out.now) c.unwritten-then-out-n.ensures
    ∙ write_short c.args.word (omega arith) c.if-op.false (has_name c.args.word (omega arith) (λ q. c.if-name_of-eq0.false (c.name_of.ensures ∙ q))) l.length l.buffer e.1 (omega (arith, e.0)) c.args.out.now (omega (arith, m, c.if-out-n.true))

pub returns : goal.returns
returns c =
    let l = c.spelt-line.result in let e = c.spelt-line.ensures in let n = length c.bytes-n.result.now in
    let m : n ≡ l.length = ap length c.bytes-n.ensures ∙ length-take-le l.length l.buffer (omega (arith, e.0)) in
    let same : take n l.buffer ≡ take l.length l.buffer = ap (λ (k : ℕ). take k l.buffer) m in
    write_done c.args.word (omega arith) c.if-op.false (has_name c.args.word (omega arith) (λ q. c.if-name_of-eq0.false (c.name_of.ensures ∙ q))) n l.buffer (same ∙ e.1) (omega (arith, e.0, m)) c.args.out.now _
    (omega (arith, c.if-out-n.false))
    (ap (λ (s : List ℕ). s ++ drop n c.args.out.now) (c.copy_from_slice.ensures.after ∙ c.bytes.ensures ∙ sym same))
