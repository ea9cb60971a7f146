-- `bits::bit_of` meets its contract: a number's last bit is its remainder by two.
use Prim.Native.Nat.{◌/◌, ◌^◌}
use borrow.Author.Rules.{rules}
use lib.Bits.{and_mask}
use Rattle.bits.proofs.bit_of.Statement.{statement}
use Rattle.bits.proofs.bit_of.Tie as tie

pub bit_of_spec : {M : Type 1} → statement M
bit_of_spec = tie.close (tie.spec (λ c. search rules) (λ c. rw (and_mask (c.args.op / 2 ^ c.args.k) 1)))
