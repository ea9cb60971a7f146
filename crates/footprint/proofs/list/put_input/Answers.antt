-- `footprint::list::put_input` meets its contract.
use Prim.Native.Nat.{ℕ, ◌≤◌, ◌<◌}
use borrow.Author.Tests.{lt-ltb, le-ltb}
use native.Mathlib.Omega.{arith}
use Rattle.words.specs.Fields.{input_of}
use Rattle.words.specs.Input as I
use Rattle.model.specs.Table.{input}
use Rattle.footprint.specs.Inner.Numbers.{Adds}
use Rattle.footprint.specs.declared.Numbers.{Numbers}
use Rattle.footprint.proofs.Grown.{none, one}
use Rattle.footprint.proofs.list.put_input.Goals as goal

module _ {l : Numbers} (vcdst mask : ℕ) where
  signs_given : {r : Numbers} → mask < 65536 → Adds l (input vcdst I.Signs) r → Adds l (input vcdst (input_of mask)) r
  signs_given h k = rw (lt-ltb mask 65536 h) k

  nothing_given : 65536 ≤ mask → Adds l (input vcdst (input_of mask)) l
  nothing_given h = rw (le-ltb mask 65536 h) none

pub returns-then-mask-lt65536 : goal.returns-then-mask-lt65536
returns-then-mask-lt65536 c = signs_given c.args.vcdst c.args.mask c.if-mask-lt65536.true (one _ _ c.push.ensures (omega arith))

pub returns-else-mask-lt65536 : goal.returns-else-mask-lt65536
returns-else-mask-lt65536 c = nothing_given c.args.vcdst c.args.mask c.if-mask-lt65536.false
