-- What is left to look at decides.
use Rattle.std.proofs.Common.{◌≡◌, sym, ap, ◌∙◌, ℕ, List, get_or}
use Rattle.std.specs.Prelude.{nat_eq}
use Rattle.std.specs.List.{list_any}
use Rattle.swap.proofs.Held.{has_any, first_here, first_later}
use Rattle.swap.proofs.search.first.Goals as goal

pub returns-then-contains : goal.returns-then-contains
returns-then-contains c =
    let xs = c.in_ok-x-items.x-items.now in
    let x = get_or xs c.loop-x.x-index 0 in
    let found = c.contains.ensures.value ∙ ap (λ (ys : List ℕ). list_any (λ y. nat_eq y x) ys) c.held-in-loop-x.ensures ∙ has_any x _ in
    sym (first_here xs _ c.loop-x.x-index c.loop-x-test.true (sym found ∙ c.if-contains.true)) ∙ c.loop-x.invariant

pub loop-x-preserved : goal.loop-x-preserved
loop-x-preserved c =
    let xs = c.in_ok-x-items.x-items.now in
    let x = get_or xs c.loop-x.x-index 0 in
    let found = c.contains.ensures.value ∙ ap (λ (ys : List ℕ). list_any (λ y. nat_eq y x) ys) c.held-in-loop-x.ensures ∙ has_any x _ in
    sym (first_later xs _ c.loop-x.x-index c.loop-x-test.true (sym found ∙ c.if-contains.false)) ∙ c.loop-x.invariant
