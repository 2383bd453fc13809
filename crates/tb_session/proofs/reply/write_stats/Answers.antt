use Rattle.std.proofs.Common.{◌∙◌}
use Rattle.tb_io.proofs.Written.{written_as}
use Rattle.tb_session.proofs.Texts.{stats-parts}
use Rattle.tb_session.proofs.reply.write_stats.Goals as goal

pub returns : goal.returns
returns g c = record {
  written = written_as {w = c.write_all.result}
      (stats-parts (c.as_bytes-release.ensures.value ∙ c.format.ensures.text) (c.as_bytes-looks.ensures.value ∙ c.format-2.ensures.text) (c.as_bytes-hits.ensures.value ∙ c.format-3.ensures.text)
      (c.as_bytes-entries.ensures.value ∙ c.format-4.ensures.text) (c.as_bytes-capacity.ensures.value ∙ c.format-5.ensures.text)) c.write_all.ensures.written;
}
