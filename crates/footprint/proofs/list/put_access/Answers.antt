-- `footprint::list::put_access` meets its contract: the base's fields are those that the table names.
use mathlib.Core.Path.{◌≡◌, ap, ◌∙◌}
use mathlib.Core.List.{List}
use Prim.Native.Nat.{ℕ}
use native.Mathlib.Omega.{arith}
use lib.Bits.{bit_or}
use lib.ListN.{get_or}
use Rattle.terms.specs.declared.Way.{Way}
use Rattle.pieces.specs.Inner.Regs.{base_of}
use Rattle.pieces.specs.declared.Base.{Base}
use Rattle.pieces.specs.Place.{xlat}
use Rattle.model.specs.Table.{addr_in, code_in, bytes}
use Rattle.footprint.specs.Inner.Numbers.{Adds, lent}
use Rattle.footprint.specs.declared.Numbers.{Numbers}
use Rattle.footprint.proofs.list.put_access.Goals as goal

module _ (a : List ℕ) (n : ℕ) {b : Base} (e : b ≡ base_of (get_or a n 0)) where
  code : b.stride ≡ code_in (lent a) n
  unfolding base_of
  code = ap (λ (x : Base). x.stride) e

  addr : {x : ℕ} (uimm : ℕ) → x ≡ bit_or b.addr uimm → x ≡ bit_or (addr_in (lent a) n) uimm
  unfolding base_of
  addr uimm f = f ∙ ap (λ (x : Base). bit_or x.addr uimm) e

-- numbers that are equal name the same bytes
given : {l r : Numbers} {c d x y : ℕ} (way : Way) → c ≡ d → x ≡ y → Adds l (bytes xlat way c x) r → Adds l (bytes xlat way d y) r
given way e f h = rw (← e, ← f) h

pub put_bytes-requires : goal.put_bytes-requires
put_bytes-requires c = omega (arith, code c.args.a.now c.args.n c.base_of-b.ensures, c.fits-a c.args.n)

pub returns : goal.returns
returns c =
    let a = c.args in
    given a.way (code a.a.now a.n c.base_of-b.ensures) (addr a.a.now a.n c.base_of-b.ensures a.uimm c.joined-addr.ensures) c.put_bytes.ensures
