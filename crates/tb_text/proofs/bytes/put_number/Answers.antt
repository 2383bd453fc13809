use Rattle.std.proofs.Common.{◌+◌, arith}
use Rattle.std.specs.Prelude.{decimal}
use Rattle.std.proofs.lemmas.List.{length-set}
use Rattle.tb_text.proofs.Copies.{number_put}
use Rattle.tb_text.proofs.bytes.put_number.Goals as goal

pub write_digits-requires : goal.write_digits-requires
write_digits-requires c =
    (rw c.from.ensures (omega (arith, c.digit_count.ensures.count)), omega (arith, c.digit_count.ensures.few, length-set c.args.to.now (c.args.at + c.digit_count.result) 10))

pub returns-clause-text : goal.returns-clause-text
returns-clause-text c =
    number_put c.args.to.now c.write_digits.new.buf (decimal c.args.n) c.args.at (c.args.at + c.digit_count.result) c.write_digits.result
    (omega (arith, c.digit_count.ensures.count)) (omega (arith, c.digit_count.ensures.few)) (rw c.from.ensures at c.write_digits.ensures.start) (rw c.from.ensures at c.write_digits.ensures.written) c.write_digits.ensures.before
