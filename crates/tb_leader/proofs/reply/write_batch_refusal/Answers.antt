use Rattle.std.proofs.Common.{◌∙◌, ap}
use Rattle.std.specs.Prelude.{decimal}
use Rattle.tb_io.proofs.Written.{written_as}
use Rattle.tb_leader.proofs.Writing.{batch-parts}
use Rattle.tb_leader.proofs.reply.write_batch_refusal.Goals as goal

pub returns : goal.returns
returns g c = record {
  written = written_as {w = c.write_all.result}
      (batch-parts c.print_number-edit_len.ensures.digits (c.print_number-number_len.ensures.digits ∙ ap decimal (c.from.ensures ∙ c.number.ensures)) (c.as_bytes-word.ensures.value ∙ c.word.ensures)) c.write_all.ensures.written;
}
