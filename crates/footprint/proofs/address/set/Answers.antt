-- `footprint::address::set` meets its contract.
use mathlib.Core.Path.{◌≡◌, refl}
use mathlib.Core.List.{[]}
use Prim.Native.Nat.{ℕ}
use Rattle.terms.specs.declared.Half.{Half}
use Rattle.terms.specs.declared.Half.TheVariants.{Low, High}
use Rattle.pieces.specs.State.{A}
use Rattle.pieces.specs.Place.{Place, at}
use Rattle.model.specs.Table.{half_of}
use Rattle.words.specs.Table.{set_of}
use Rattle.footprint.specs.Inner.Numbers.{addressed}
use Rattle.footprint.proofs.Grown.{ends, cut}
use Rattle.footprint.proofs.address.set.Goals as goal

half_is : (h : Half) (n : ℕ) → ◌≡◌ {A = Place} (half_of h n) (at A n h)
half_is Low n = refl
half_is High n = refl

pub returns : goal.returns
returns c =
    let h = c.args.half in
    cut (λ f. addressed (set_of f h) []) c.cut-f.ensures.0
    (rw (half_is h c.cut-f.result.dst) (ends c.empty-read.ensures c.put_half-list.ensures))
