use Rattle.std.proofs.lemmas.Result.{IfOk-weaker}
use Rattle.tb_base.proofs.OnlyAnswer.{only}
use Rattle.tb_revise.specs.declared.fault.EditTextFault.TheVariants as faults
use Rattle.tb_revise.proofs.Fitting.{read_edits_fit}
use Rattle.tb_revise.proofs.OneAnswer.{is_memory, one_answer}
use Rattle.tb_revise.proofs.read.read_edit.Goals as goal

pub returns-clause-only : goal.returns-clause-only
returns-clause-only c = only faults.Memory _ _
    (one_answer c.args.schema.now c.args.line.now) is_memory _ c.read.ensures.read c.read.ensures.refused

pub returns-clause-fits : goal.returns-clause-fits
returns-clause-fits c = IfOk-weaker c.read.result _ _ (λ e h. read_edits_fit _ _ e h) c.read.ensures.read
