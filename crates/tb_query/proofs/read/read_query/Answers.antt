use Rattle.tb_base.proofs.OnlyAnswer.{only}
use Rattle.tb_query.specs.declared.fault.QueryFault.TheVariants as faults
use Rattle.tb_query.proofs.OneAnswer.{is_memory, one_answer}
use Rattle.tb_query.proofs.Refusals.{over_result}
use Rattle.tb_query.proofs.read.read_query.Goals as goal

pub returns-clause-only : goal.returns-clause-only
returns-clause-only c = only faults.Memory _ _
    (one_answer c.args.schema.now c.args.line.now) is_memory _ c.read.ensures.read c.read.ensures.refused

pub returns-clause-over : goal.returns-clause-over
returns-clause-over c = over_result _ _ _ c.read.ensures.read
