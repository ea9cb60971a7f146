-- `names::scan::count` meets its contract: those counted and those left are those at the start.
use mathlib.Core.Path.{◌≡◌, ap, ◌∙◌, sym}
use Prim.Native.Nat.{ℕ, ◌+◌}
use mathlib.Core.List.{List}
use native.Mathlib.Omega.{arith}
use mir.Val.{bool_byte}
use lib.Dec.{eqb}
use lib.ListN.{length, get_or}
use Rattle.names.proofs.Scans.{Rest, at_feed, split_end, count_on, one_at_most, left_at}
use Rattle.names.proofs.scan.count.Goals as goal

pub returns-then-b-eq10 : goal.returns-then-b-eq10
returns-then-b-eq10 c =
    let t = c.args.text.now in let i = c.loop-b.b-index in let at = c.args.at in
    let e = ap (λ (r : List ℕ × List (List ℕ)). length r.1) (at_feed t (at + i) (omega arith) (sym (left_at t at i) ∙ c.if-b-eq10.true)) in
    omega (arith, c.loop-b.invariant.1)

pub loop-b-preserved : goal.loop-b-preserved
loop-b-preserved c =
    let t = c.args.text.now in let i = c.loop-b.b-index in let at = c.args.at in
    let e = count_on t (at + i) (omega arith) (λ q. c.if-b-eq10.false (left_at t at i ∙ q)) in
    let s = eqb (get_or t (at + i) 0) 32 in
    let r : c.from-n.result ≡ bool_byte s = c.from-n.ensures ∙ ap (λ (b : ℕ). bool_byte (eqb b 32)) (left_at t at i) in
    let o = one_at_most s in
    let j = ap (λ (k : ℕ). length (Rest t k)) {x = at + (i + 1)} {y = at + i + 1} (omega arith) in
    (omega (arith, r, o, c.loop-b.invariant.0), omega (arith, r, e, j, c.loop-b.invariant.1))

pub returns : goal.returns
returns c =
    let e = ap (λ (r : List ℕ × List (List ℕ)). length r.1) (split_end c.args.text.now (c.args.at + c.loop-b.b-index) (omega arith)) in
    omega (arith, c.loop-b.invariant.1)
