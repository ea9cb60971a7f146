-- `footprint::list::put_bytes` meets its contract: the loop lists the bytes in the order of the address list.
use mathlib.Core.Path.{◌≡◌}
use Prim.Native.Nat.{ℕ, ◌+◌, ◌*◌, ◌<◌}
use native.Mathlib.Omega.{arith}
use Rattle.terms.specs.declared.Way.{Way}
use Rattle.banks.specs.Line.{start_of, step_of, count_of}
use Rattle.banks.proofs.Places.{way_lt}
use Rattle.footprint.proofs.Bytes.{run_none, run_next, run_all}
use Rattle.footprint.proofs.list.put_bytes.Goals as goal

-- the address at hand is of thirteen bits
addr_lt : (way : Way) (code addr i : ℕ) {start step count : ℕ} → start ≡ start_of way code addr → step ≡ step_of way code → count ≡ count_of way
    → i < count → start + i * step < 8192
addr_lt way code addr i e f g h = rw (e, f) (way_lt way code addr i (omega (arith, g)))

pub loop-i-init : goal.loop-i-init
loop-i-init c = run_none _ _ _

pub overflow_mul-i : goal.overflow_mul-i
overflow_mul-i c =
    let a = c.args in
    omega (arith, addr_lt a.way a.code a.addr c.loop-i.i c.start-start.ensures c.step-step.ensures c.count_of-i-end.ensures c.loop-i-test.true)

pub overflow_add-start : goal.overflow_add-start
overflow_add-start c =
    let a = c.args in
    omega (arith, addr_lt a.way a.code a.addr c.loop-i.i c.start-start.ensures c.step-step.ensures c.count_of-i-end.ensures c.loop-i-test.true)

pub byte_number-requires : goal.byte_number-requires
byte_number-requires c =
    let a = c.args in
    (c.requires, addr_lt a.way a.code a.addr c.loop-i.i c.start-start.ensures c.step-step.ensures c.count_of-i-end.ensures c.loop-i-test.true)

pub loop-i-preserved : goal.loop-i-preserved
loop-i-preserved c = run_next _ _ _ c.loop-i.i c.loop-i.invariant c.byte_number.ensures.0 c.push-out.ensures

pub returns : goal.returns
returns c =
    let a = c.args in
    let n : c.loop-i.i ≡ count_of a.way = omega (arith, c.count_of-i-end.ensures, c.loop-i-test.false) in
    rw (run_all a.way a.code a.addr, ← c.start-start.ensures, ← c.step-step.ensures, ← n) c.loop-i.invariant
