-- `names::scan::digits` meets its contract: the digits so far, and those left.
use mathlib.Core.Path.{ap, ◌∙◌, sym}
use mathlib.Core.List.{List}
use mathlib.Core.Bool.{cond}
use Prim.Native.Nat.{ℕ, ◌+◌, ◌*◌, ◌-◌, ◌%◌}
use lib.Dec.{eqb}
use lib.ListN.{get_or}
use Rattle.names.specs.Inner.Scan.{digit_of}
use native.Mathlib.Omega.{arith}
use Rattle.names.proofs.Scans.{at_feed, at_space, split_end, Digits, digits_stop, digits_on, left_at}
use Rattle.names.proofs.scan.digits.Goals as goal

pub returns-then-b-eq10 : goal.returns-then-b-eq10
returns-then-b-eq10 c =
    let t = c.args.text.now in let i = c.loop-b.b-index in let at = c.args.at in
    let e = at_feed t (at + i) (omega arith) (sym (left_at t at i) ∙ c.if-b-eq10.true) in
    (sym (digits_stop c.args.base c.loop-b.n c.loop-b.k t (at + i) (ap (λ (r : List ℕ × List (List ℕ)). r.0) e)) ∙ c.loop-b.invariant.1, omega arith)

pub returns-then-b-eq32 : goal.returns-then-b-eq32
returns-then-b-eq32 c =
    let t = c.args.text.now in let i = c.loop-b.b-index in let at = c.args.at in
    let e = at_space t (at + i) (omega arith) (sym (left_at t at i) ∙ c.if-b-eq32.true) in
    (sym (digits_stop c.args.base c.loop-b.n c.loop-b.k t (at + i) (ap (λ (r : List ℕ × List (List ℕ)). r.0) e)) ∙ c.loop-b.invariant.1, omega arith)

pub loop-b-preserved : goal.loop-b-preserved
loop-b-preserved c =
    let t = c.args.text.now in let i = c.loop-b.b-index in let at = c.args.at in (
      c.step-n.ensures.1,
      ap (λ (k : ℕ). Digits c.args.base c.step-n.result k t (at + (i + 1))) c.saturating_sub-k.ensures
          ∙ ap (λ (n : ℕ). Digits c.args.base n (c.loop-b.k - 1) t (at + (i + 1))) (c.step-n.ensures.0 ∙ ap (λ (b : ℕ). cond (eqb c.loop-b.k 0) ((c.loop-b.n * c.args.base + digit_of b) % 65536) c.loop-b.n) (left_at t at i))
          ∙ ap (Digits c.args.base (cond (eqb c.loop-b.k 0) ((c.loop-b.n * c.args.base + digit_of (get_or t (at + i) 0)) % 65536) c.loop-b.n) (c.loop-b.k - 1) t) {x = at + (i + 1)} {y = at + i + 1} (omega arith)
          ∙ sym (digits_on c.args.base c.loop-b.n c.loop-b.k t (at + i) (omega arith) (λ q. c.if-b-eq10.false (left_at t at i ∙ q)) (λ q. c.if-b-eq32.false (left_at t at i ∙ q)))
          ∙ c.loop-b.invariant.1,
    )

pub returns : goal.returns
returns c =
    let e = split_end c.args.text.now (c.args.at + c.loop-b.b-index) (omega arith) in
    (sym (digits_stop c.args.base c.loop-b.n c.loop-b.k c.args.text.now (c.args.at + c.loop-b.b-index) (ap (λ (r : List ℕ × List (List ℕ)). r.0) e)) ∙ c.loop-b.invariant.1, omega arith)
