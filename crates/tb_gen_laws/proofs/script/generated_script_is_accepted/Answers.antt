use Rattle.std.proofs.Common.{arith}
use Rattle.tb_gen.specs.Generated.{generated_script}
use Rattle.tb_script.specs.Scripts.{script_lines, script_value}
use Rattle.tb_gen_laws.proofs.ScriptRounds.{script-is}
use Rattle.tb_gen_laws.proofs.ScriptTexts.{text-accepted}
use Rattle.tb_gen_laws.proofs.script.generated_script_is_accepted.Goals as goal

pub returns-clause-accepted : goal.returns-clause-accepted
returns-clause-accepted c = λ n start some few. (script_value (script_lines (generated_script n start)), text-accepted (generated_script n start) 17746 (script-is n (omega (arith, some)) few start))

pub returns-clause-short : goal.returns-clause-short
returns-clause-short c = λ n start some few. omega (arith, (script-is n (omega (arith, some)) few start).short)
