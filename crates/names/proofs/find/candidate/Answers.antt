-- `names::find::candidate` meets its contract.
use mathlib.Core.Path.{ap, ◌∙◌}
use mathlib.Core.List.{List}
use Prim.Native.Nat.{ℕ, ◌+◌, ◌*◌}
use native.Mathlib.Omega.{arith}
use lib.ListN.{drop}
use Rattle.names.specs.Line.{Operand}
use Rattle.names.specs.Table.{operands_at}
use Rattle.names.specs.Inner.Scan.{split, gathered, candidate}
use Rattle.names.specs.Inner.Code.{listed}
use Rattle.names.proofs.Operands.{form_back}
use Rattle.names.proofs.find.candidate.Goals as goal

pub returns : goal.returns
unfolding candidate
returns c =
    c.gather_all.ensures
    ∙ ap (λ (os : List Operand). c.args.op * 16777216 + gathered os (split (drop c.start-at.result c.args.text.now)).1) (ap (listed 5) c.form_of.ensures ∙ form_back c.args.op (omega arith))
    ∙ ap (λ (ts : List (List ℕ)). c.args.op * 16777216 + gathered (operands_at c.args.op) ts) c.start-at.ensures.1
