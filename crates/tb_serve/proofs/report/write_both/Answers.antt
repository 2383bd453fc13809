use Rattle.std.proofs.Common.{◌+◌, ◌++◌, ap}
use Rattle.tb_io.proofs.Written.{written_as}
use Rattle.tb_serve.specs.Reports.{port_line}
use Rattle.tb_serve.proofs.Lines.{cut_before, written_then}
use Rattle.tb_serve.proofs.report.write_both.Goals as goal

pub returns-in-All : goal.returns-in-All
returns-in-All g c = record {
  written = written_as (ap (λ served. port_line c.args.first served ++ port_line (c.args.first + 1) c.args.others) c.from.ensures)
      (written_then c.in-All.ensures.written c.write_port-in-All.ensures.written);
}

pub returns-in-Failed : goal.returns-in-Failed
returns-in-Failed g c = record {
  written = written_as (ap (λ served. port_line c.args.first served ++ port_line (c.args.first + 1) c.args.others) c.from.ensures)
      (cut_before _ c.in-Failed.ensures.written);
}
