use Rattle.std.proofs.Common.{arith}
use Rattle.tb_spelling.proofs.Edits.{is_read}
use Rattle.tb_spelling.proofs.read.read_payload.Goals as goal

pub returns : goal.returns
returns c = is_read c.args.bytes.now c.edits_in.result (λ i. omega (arith, c.type_inv.bytes i)) c.edits_in.ensures
