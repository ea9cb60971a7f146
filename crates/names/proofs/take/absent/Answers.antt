-- `names::take::absent` meets its contract: 10 and 11 are the registers of flags.
use native.Mathlib.Omega.{arith}
use Rattle.names.proofs.Gathered.{others, flags_ten_eleven}
use Rattle.names.proofs.take.absent.Goals as goal

pub returns-in-10 : goal.returns-in-10
returns-in-10 c = flags_ten_eleven c.args.o c.args.after c.args.left (omega arith) (omega arith)

pub returns-in_default : goal.returns-in_default
returns-in_default c = others c.args.o c.args.after c.args.left (λ e. omega arith) (λ e. omega arith)

pub returns-in_default-2 : goal.returns-in_default-2
returns-in_default-2 c = others c.args.o c.args.after c.args.left (λ e. omega arith) (λ e. omega arith)
