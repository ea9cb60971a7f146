-- `footprint::list::byte_number` meets its contract: the place in two steps, the bank and the rest, and no sum wraps.
use Prim.Native.Nat.{◌<◌}
use native.Mathlib.Omega.{arith}
use borrow.Author.Rules.{rules}
use Rattle.banks.proofs.Masks.{at_line}
use Rattle.banks.proofs.OneToOne.{bank_lt}
use Rattle.footprint.proofs.list.byte_number.Statement.{statement}
use Rattle.footprint.proofs.list.byte_number.Tie as tie

sixteen : (c : tie.After-bank) → c.bank.result < 16
sixteen c = let a = c.before.args in omega (arith, c.bank.ensures, bank_lt a.code a.addr)

pub byte_number_spec : {M : Type 1} → statement M
byte_number_spec =
    tie.close
    (tie.spec
    (λ c κs. search rules)
    (λ c. omega (arith, sixteen c))
    (λ c. omega (arith, sixteen c))
    (λ c. omega (arith, sixteen c))
    (λ c.
    let s = c.before in
    omega (arith, sixteen c, c.bank.ensures, at_line s.args.code s.args.addr s.requires.1)))
