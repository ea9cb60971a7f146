-- The loop puts down one word after the other.
use Rattle.std.proofs.Common.{◌≡◌, ℕ, ◌+◌, ◌*◌, List, set, drop, length-set, refl, sym, ap, ◌∙◌, arith}
use Rattle.parts.specs.Inner.Feed.{word_at}
use Rattle.parts.proofs.Fill.{word_drop, filled, filled_more}
use Rattle.parts.proofs.bytes.fill.Goals as goal

pub loop-k-init : goal.loop-k-init
loop-k-init c = (c.told-words, refl)

pub loop-k-preserved : goal.loop-k-preserved
loop-k-preserved c =
    let k = c.loop-k.k in
    let bs = c.args.bytes.now in
    let e : 4 * k ≡ k * 4 = omega arith in
    let x = c.word.ensures ∙ ap (λ (j : ℕ). word_at bs (c.args.at + j)) e ∙ sym (word_drop bs c.args.at (k * 4)) in (
      simp length-set c.loop-k.invariant.0,
      ap (λ (ws : List ℕ). set ws k c.word.result) c.loop-k.invariant.1
          ∙ filled_more k c.word.result (drop c.args.at bs) c.args.words.now (omega (arith, c.told-words, c.requires.0, c.loop-k-test.true)) x,
    )

pub returns : goal.returns
returns c =
    let e : c.loop-k.k ≡ c.args.n = omega arith in
    c.loop-k.invariant.1 ∙ ap (λ (k : ℕ). filled k (drop c.args.at c.args.bytes.now) c.args.words.now) e
