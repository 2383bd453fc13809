use Rattle.tb_io.proofs.Written.{written_as}
use Rattle.tb_text.proofs.table.write_table.Goals as goal

pub returns-clause-written : goal.returns-clause-written
returns-clause-written g c = written_as (c.in_ok-prepared.ensures c.args.rules.now c.args.cells.now) c.write-wrote.ensures
