use Rattle.std.proofs.Common.{ap, length, decimal, drop, arith, length-append, length-drop}
use Rattle.std.proofs.lemmas.Fmt.{length-decimal-le}
use Rattle.tb_gen.proofs.line.Line.put_number.Goals as goal

pub write_digits-self-inside-requires : goal.write_digits-self-inside-requires
write_digits-self-inside-requires c =
    let digits = length-decimal-le 10 c.from.result (omega arith) (omega arith) (omega arith) in
    let long = ap length c.self.view_is in
    (omega (arith, digits, long, length-drop c.self.inside.start c.self.inside.bytes), omega arith)

pub returns-clause-short : goal.returns-clause-short
returns-clause-short c =
    let digits = length-decimal-le 10 c.from.result (omega arith) (omega arith) (omega arith) in
    let text = ap length c.write_digits-self-inside.ensures.written in
    let long = ap length c.self.view_is in
    omega (arith, digits, text, long, length-append (decimal c.from.result) (drop c.self.inside.start c.self.inside.bytes))
