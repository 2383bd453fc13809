use Rattle.std.proofs.Common.{◌/◌, arith}
use Rattle.tb_text.proofs.DigitCounts.{count_four_more}
use Rattle.tb_text.proofs.bytes.digit_count.Goals as goal

pub returns-then-front-lt10000-clause-count : goal.returns-then-front-lt10000-clause-count
returns-then-front-lt10000-clause-count c = omega (arith, c.short_count-low.ensures.count, count_four_more c.args.n (omega arith) (omega arith))

pub returns-clause-count : goal.returns-clause-count
returns-clause-count c =
    omega (arith, c.short_count-high.ensures.count, count_four_more c.args.n (omega arith) (omega arith), count_four_more (c.args.n / 10000) (omega arith) (omega arith))
