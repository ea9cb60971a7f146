-- The row is turned round, so that its bytes go to the banks in their order.
use Rattle.std.proofs.Common.{arith, rules}
use Rattle.terms.specs.declared.Way.TheVariants.{Horizontal}
use Rattle.store.proofs.Access.{start_within, line_within, bank_within, row_stored}
use Rattle.store.proofs.store_row.Goals as goal

pub bank-by-requires : goal.bank-by-requires
bank-by-requires c = (search rules, start_within Horizontal _ _ _ c.start-start.ensures)

pub overflow_sub-by : goal.overflow_sub-by
overflow_sub-by c = omega (arith, bank_within _ _ _ c.bank-by.ensures)

pub to_banks-requires : goal.to_banks-requires
to_banks-requires c = line_within Horizontal _ _ _ c.start-start.ensures

pub returns : goal.returns
returns c = row_stored _ _ _ _ c.start-start.ensures c.bank-by.ensures _ _ _ _ (search rules) c.turned.ensures c.to_banks.ensures
