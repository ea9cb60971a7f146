-- Each answer is the definition's under the tests that lead to it.
use Rattle.std.proofs.Common.{◌≡◌, ℕ, ◌+◌, ◌-◌, ◌*◌, ap, take, drop, arith}
use borrow.Author.Tests.{lt-ltb, le-ltb, eq-eqb, ne_eqb}
use Rattle.store.specs.Store.{bank_view}
use Rattle.store.proofs.bank_view.Goals as goal

pub returns-then-store-ne8192 : goal.returns-then-store-ne8192
unfolding bank_view
returns-then-store-ne8192 c = rw (ne_eqb _ 8192 c.if-store-ne8192.true)

pub returns-then-bank-gt15 : goal.returns-then-bank-gt15
unfolding bank_view
returns-then-bank-gt15 c = rw (eq-eqb _ 8192 c.if-store-ne8192.false, le-ltb _ 16 c.if-bank-gt15.true)

pub returns : goal.returns
unfolding bank_view
returns c =
    let b = c.args.bank in
    let e : b * 512 + 512 - b * 512 ≡ 512 = omega arith in
    rw (eq-eqb _ 8192 c.if-store-ne8192.false, lt-ltb b 16 (omega arith))
    (ap (λ (n : ℕ). take n (drop (b * 512) c.args.store.now)) e)
