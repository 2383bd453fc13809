use Rattle.std.proofs.Common.{◌∙◌, ap, decimal}
use Rattle.tb_io.proofs.Written.{written_as}
use Rattle.tb_top.proofs.SummaryTexts.{summary-parts}
use Rattle.tb_top.proofs.summary.write_summary.Goals as goal

pub returns : goal.returns
returns g c = record {
  written = λ text (feeds, bytes, sum). written_as {w = c.write_all.result}
      (summary-parts (c.as_bytes-persons.ensures.value ∙ c.format.ensures.text ∙ ap decimal c.persons.ensures.persons)
      (c.as_bytes-start.ensures.value ∙ c.format-2.ensures.text ∙ ap decimal c.start.ensures)
      (c.as_bytes-feeds.ensures.value ∙ c.format-3.ensures.text ∙ ap decimal feeds)
      (c.as_bytes-bytes.ensures.value ∙ c.format-4.ensures.text ∙ ap decimal bytes)
      (c.as_bytes-byte_sum.ensures.value ∙ c.format-5.ensures.text ∙ ap decimal sum)) c.write_all.ensures.written;
}
