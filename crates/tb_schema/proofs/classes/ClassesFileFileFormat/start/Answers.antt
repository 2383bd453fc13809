use Rattle.tb_schema.proofs.Within.{no_variables}
use Rattle.tb_schema.proofs.classes.ClassesFileFileFormat.start.Goals as goal

pub returns-clause-known : goal.returns-clause-known
returns-clause-known c = rw c.new.ensures.empty no_variables
