use Rattle.std.proofs.Common.{◌∙◌, refl}
use Rattle.tb_text.proofs.Passes.{two_writes, failed_first}
use Rattle.tb_text.proofs.lines.finish.Goals as goal

pub returns-in-All : goal.returns-in-All
returns-in-All g c = record {
  written = two_writes (c.as_slice-2.ensures ∙ c.fit.ensures.full c.if-fit.false) c.write-2.ensures.count (c.in-All.ensures.all refl)
      (record { count = c.write-in-All.ensures.count; failed = c.write-in-All.ensures.failed; all = c.write-in-All.ensures.all; part = c.write-in-All.ensures.part });
}

pub returns-in-Failed : goal.returns-in-Failed
returns-in-Failed g c = record {
  written = failed_first _ (c.as_slice-2.ensures ∙ c.fit.ensures.full c.if-fit.false) c.write-2.ensures.count (c.in-Failed.ensures.failed refl) (c.in-Failed.ensures.part refl);
}
