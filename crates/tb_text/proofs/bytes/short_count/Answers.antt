use Rattle.std.proofs.Common.{arith}
use Rattle.tb_text.proofs.DigitCounts.{count_one, count_two, count_three, count_four}
use Rattle.tb_text.proofs.bytes.short_count.Goals as goal

pub returns-then-n-lt10-clause-count : goal.returns-then-n-lt10-clause-count
returns-then-n-lt10-clause-count c = count_one c.args.n (omega arith)

pub returns-then-n-lt100-clause-count : goal.returns-then-n-lt100-clause-count
returns-then-n-lt100-clause-count c = count_two c.args.n (omega arith) (omega arith)

pub returns-then-n-lt1000-clause-count : goal.returns-then-n-lt1000-clause-count
returns-then-n-lt1000-clause-count c = count_three c.args.n (omega arith) (omega arith)

pub returns-clause-count : goal.returns-clause-count
returns-clause-count c = count_four c.args.n (omega arith) (omega arith)
