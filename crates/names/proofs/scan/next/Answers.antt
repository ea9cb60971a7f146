-- `names::scan::next` meets its contract: the texts left are those at the start.
use mathlib.Core.Path.{ap, ◌∙◌, sym}
use Prim.Native.Nat.{ℕ, ◌+◌}
use mathlib.Core.List.{List}
use native.Mathlib.Omega.{arith}
use lib.ListN.{length}
use Rattle.names.proofs.Scans.{Rest, at_feed, at_space, at_inner, split_end, next_end, next_space, left_at}
use Rattle.names.proofs.scan.next.Goals as goal

pub returns-then-b-eq10 : goal.returns-then-b-eq10
returns-then-b-eq10 c =
    let t = c.args.text.now in let i = c.loop-i.i in let at = c.args.at in
    let e = at_feed t (at + i) (omega arith) (sym (left_at t at i) ∙ c.if-b-eq10.true) in
    (omega arith, next_end t at (length t) (sym c.loop-i.invariant ∙ ap (λ (r : List ℕ × List (List ℕ)). r.1) e) (split_end t (length t) (omega arith)))

pub returns-then-b-eq32 : goal.returns-then-b-eq32
returns-then-b-eq32 c =
    let t = c.args.text.now in let i = c.loop-i.i in let at = c.args.at in
    let e = at_space t (at + i) (omega arith) (sym (left_at t at i) ∙ c.if-b-eq32.true) in
    (omega arith, next_space t at (at + i + 1) (sym c.loop-i.invariant ∙ ap (λ (r : List ℕ × List (List ℕ)). r.1) e))

pub loop-i-preserved : goal.loop-i-preserved
loop-i-preserved c =
    let t = c.args.text.now in let i = c.loop-i.i in let at = c.args.at in
    let e = at_inner t (at + i) (omega arith) (λ q. c.if-b-eq10.false (left_at t at i ∙ q)) (λ q. c.if-b-eq32.false (left_at t at i ∙ q)) in
    ap (Rest t) {x = at + (i + 1)} {y = at + i + 1} (omega arith) ∙ sym (ap (λ (r : List ℕ × List (List ℕ)). r.1) e) ∙ c.loop-i.invariant

pub returns : goal.returns
returns c =
    let t = c.args.text.now in let n = c.args.at + c.loop-i.i in
    let e = split_end t n (omega arith) in
    (omega arith, next_end t c.args.at (length t) (sym c.loop-i.invariant ∙ ap (λ (r : List ℕ × List (List ℕ)). r.1) e) (split_end t (length t) (omega arith)))
