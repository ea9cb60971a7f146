-- `names::line::spelt` meets its contract: the line of a documented word.
use mathlib.Core.Path.{◌∙◌, ap}
use Prim.Native.Nat.{◌/◌}
use native.Mathlib.Omega.{arith}
use lib.ListN.{take}
use Rattle.names.specs.Inner.Code.{listed}
use Rattle.names.proofs.Lines.{whole_line}
use Rattle.names.proofs.Operands.{form_back}
use Rattle.names.proofs.line.spelt.Goals as goal

pub returns : goal.returns
returns c =
    let p = c.put in let t = c.put_texts in let k = c.push in let w = c.args.w in (
      omega (arith, k.ensures.0, t.ensures.0, p.ensures.0),
      whole_line w c.name_of.result c.form_of.result (take p.new.self.length p.new.self.buffer) (take t.new.self.length t.new.self.buffer) (take k.new.self.length k.new.self.buffer)
          (omega arith) c.requires c.name_of.ensures (ap (listed 5) c.form_of.ensures ∙ form_back (w / 16777216) (omega arith))
          p.ensures.1 t.ensures.1 k.ensures.1,
    )
