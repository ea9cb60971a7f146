-- `names::scan::heading` meets its contract: the first bytes, packed, and what is left of the name.
use mathlib.Core.Path.{refl, ap, ◌∙◌}
use Prim.Native.Nat.{ℕ, ◌+◌, ◌*◌, ◌<◌}
use native.Mathlib.Omega.{arith}
use lib.ListN.{length, get_or}
use Rattle.names.specs.Inner.Code.{packed}
use Rattle.names.proofs.Heads.{packed_more, bytes_more, name_ends, name_some, name_room, name_more, name_long, stops_feed, stops_space, stops_end}
use Rattle.names.proofs.scan.heading.Goals as goal

pub loop-i-init : goal.loop-i-init
unfolding packed
loop-i-init c = (omega arith, refl, tt, refl)

pub returns-then-b-eq10 : goal.returns-then-b-eq10
returns-then-b-eq10 c = let v = c.loop-i.invariant in (name_ends c.args.text.now c.loop-i.i c.loop-i.p (omega arith) v.0 v.1 v.2 v.3 (stops_feed c.args.text.now c.loop-i.i (omega arith) c.if-b-eq10.true), name_some c.args.text.now c.loop-i.i c.loop-i.p (omega arith) v.0 v.1 v.2 v.3)

pub returns-then-b-eq32 : goal.returns-then-b-eq32
returns-then-b-eq32 c = let v = c.loop-i.invariant in (name_ends c.args.text.now c.loop-i.i c.loop-i.p (omega arith) v.0 v.1 v.2 v.3 (stops_space c.args.text.now c.loop-i.i (omega arith) c.if-b-eq32.true), name_some c.args.text.now c.loop-i.i c.loop-i.p (omega arith) v.0 v.1 v.2 v.3)

pub returns-then-i-gt6 : goal.returns-then-i-gt6
returns-then-i-gt6 c = (name_long c.args.text.now c.loop-i.i (omega arith) c.loop-i.invariant.3 (omega arith) c.if-b-eq10.false c.if-b-eq32.false, λ q. omega arith)

pub behind-p-requires : goal.behind-p-requires
behind-p-requires c = let v = c.loop-i.invariant in name_room c.args.text.now c.loop-i.i c.loop-i.p (omega arith) v.0 v.1 v.2 v.3 (omega arith)

pub loop-i-preserved : goal.loop-i-preserved
loop-i-preserved c =
    let v = c.loop-i.invariant in let t = c.args.text.now in let i = c.loop-i.i in let g : i < length t = omega arith in (
      omega arith,
      c.behind-p.ensures.0 ∙ ap (λ (p : ℕ). p * 256 + get_or t i 0) v.1 ∙ packed_more t i g c.behind-p.ensures.1,
      bytes_more t i g c.behind-p.ensures.1 v.2,
      name_more t i g v.3 c.if-b-eq10.false c.if-b-eq32.false,
    )

pub returns : goal.returns
returns c = let v = c.loop-i.invariant in (name_ends c.args.text.now c.loop-i.i c.loop-i.p (omega arith) v.0 v.1 v.2 v.3 (stops_end c.args.text.now c.loop-i.i (omega arith)), name_some c.args.text.now c.loop-i.i c.loop-i.p (omega arith) v.0 v.1 v.2 v.3)
