use Rattle.std.proofs.Common.{arith}
use Rattle.tb_text.proofs.Copies.{two_put}
use Rattle.tb_text.proofs.bytes.put_sign.Goals as goal

pub returns-clause-text : goal.returns-clause-text
returns-clause-text c = two_put c.args.to.now c.args.at 99 10 (omega arith)
