-- `names::line::Line::put_text` meets its contract.
use mathlib.Core.Path.{◌∙◌, ap}
use mathlib.Core.List.{List, ◌++◌}
use Prim.Native.Nat.{ℕ}
use lib.ListN.{take}
use Rattle.names.specs.Inner.Code.{unpacked}
use Rattle.names.proofs.Lines.{piece_back}
use Rattle.names.proofs.line.Line.put_text.Goals as goal

pub returns : goal.returns
returns c = let l = c.args.self.now in (
  c.put.ensures.0,
  c.put.ensures.1
      ∙ ap (λ (p : ℕ). take l.length l.buffer ++ unpacked 7 p) c.text.ensures
      ∙ ap (λ (t : List ℕ). take l.length l.buffer ++ t) (piece_back c.args.o c.args.w),
)
