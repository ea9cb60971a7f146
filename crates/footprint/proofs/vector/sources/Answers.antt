-- `footprint::vector::sources` meets its contract: each return has listed as many as were asked for.
use mathlib.Core.Path.{◌≡◌}
use Prim.Native.Nat.{ℕ, ◌≤◌}
use native.Mathlib.Omega.{arith}
use lib.ListN.{take}
use lib.Seq.{take_all}
use Rattle.words.specs.declared.Fields.{Fields}
use Rattle.footprint.specs.Inner.Numbers.{nothing, Adds, sources_in}
use Rattle.footprint.specs.declared.Numbers.{Numbers}
use Rattle.footprint.proofs.Grown.{both}
use Rattle.footprint.proofs.vector.sources.Goals as goal

module _ {r : Numbers} {n : ℕ} (f : Fields) where
  as_many : (k : ℕ) → n ≡ k → Adds nothing (take k (sources_in f)) r → Adds nothing (take n (sources_in f)) r
  as_many k e h = rw e h

  all : 3 ≤ n → Adds nothing (sources_in f) r → Adds nothing (take n (sources_in f)) r
  all e h = rw (take_all n (sources_in f) e) h

pub returns-then-n-eq1 : goal.returns-then-n-eq1
returns-then-n-eq1 c = as_many c.args.f 1 c.if-n-eq1.true (both c.empty-none.ensures c.put_vector-one.ensures)

pub returns-then-n-eq2 : goal.returns-then-n-eq2
returns-then-n-eq2 c = as_many c.args.f 2 c.if-n-eq2.true (both (both c.empty-none.ensures c.put_vector-one.ensures) c.put_vector-two.ensures)

pub returns : goal.returns
returns c = all {n = c.args.n} c.args.f (omega arith) (both (both (both c.empty-none.ensures c.put_vector-one.ensures) c.put_vector-two.ensures) c.put_vector.ensures)
