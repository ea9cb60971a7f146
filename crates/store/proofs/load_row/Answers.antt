-- The part of the doubled line is the row.
use Rattle.std.proofs.Common.{rules}
use native.Mathlib.Nat.{le_of_lt}
use Rattle.terms.specs.declared.Way.TheVariants.{Horizontal}
use Rattle.store.proofs.Access.{start_within, line_within, bank_within, row_loaded}
use Rattle.store.proofs.load_row.Goals as goal

pub banked-requires : goal.banked-requires
banked-requires c = line_within Horizontal _ _ _ c.start-start.ensures

pub bank-requires : goal.bank-requires
bank-requires c = (search rules, start_within Horizontal _ _ _ c.start-start.ensures)

pub part-requires : goal.part-requires
part-requires c = le_of_lt (bank_within _ _ _ c.bank.ensures)

pub returns : goal.returns
returns c = row_loaded _ _ _ _ c.start-start.ensures c.bank.ensures _ _ _ c.banked.ensures c.part.ensures
