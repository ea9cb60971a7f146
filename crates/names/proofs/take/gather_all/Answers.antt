-- `names::take::gather_all` meets its contract.
use lib.ListN.{drop}
use Rattle.names.specs.Inner.Scan.{split}
use Rattle.names.proofs.Gathered.{five_places}
use Rattle.names.proofs.take.gather_all.Goals as goal

pub returns : goal.returns
returns c =
    let t = c.args.text.now in
    five_places c.args.f c.args.w c.one_operand-s1.result.word c.one_operand-s2.result.word c.one_operand-s3.result.word c.one_operand-s4.result.word c.one_operand-s5.result.word
    c.some-n4.result c.some.result c.some-2.result c.some-3.result
    (split (drop c.args.at t)).1 (split (drop c.one_operand-s1.result.at t)).1 (split (drop c.one_operand-s2.result.at t)).1 (split (drop c.one_operand-s3.result.at t)).1 (split (drop c.one_operand-s4.result.at t)).1 (split (drop c.one_operand-s5.result.at t)).1
    c.some-n4.ensures.0 c.some.ensures.0 c.some-2.ensures.0 c.some-3.ensures.0
    c.one_operand-s1.ensures.3 c.one_operand-s2.ensures.3 c.one_operand-s3.ensures.3 c.one_operand-s4.ensures.3 c.one_operand-s5.ensures.3
