use Rattle.std.proofs.Common.{ap, ◌++◌}
use Rattle.tb_io.proofs.Written.{written_as}
use Rattle.tb_serve.specs.Reports.{closing, lines_at}
use Rattle.tb_serve.proofs.Lines.{cut_before, written_then}
use Rattle.tb_serve.proofs.report.write_report.Goals as goal

pub returns-in-All : goal.returns-in-All
returns-in-All g c = record {
  written = written_as (ap (λ failed. lines_at c.args.places c.args.ports.now ++ closing c.args.release failed)
      c.requires.failed)
      (written_then c.in-All.ensures.written c.write_closing.ensures.written);
}

pub returns-in-Failed : goal.returns-in-Failed
returns-in-Failed g c = record { written = cut_before _ c.in-Failed.ensures.written }
