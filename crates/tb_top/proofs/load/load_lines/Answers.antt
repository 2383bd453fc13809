use Rattle.std.proofs.Common.{refl, Ok}
use Rattle.std.proofs.lemmas.Result.{err_from_is_err_and}
use Rattle.tb_script.specs.Scripts.{ScriptValue}
use Rattle.tb_top.specs.Asking.{script_in}
use Rattle.tb_top.specs.declared.asked.AskedLines.TheVariants as lines
use Rattle.tb_top.proofs.Generating.{loads-none}
use Rattle.tb_top.proofs.LoadSteps.{Loads-ends, Loads-fails}
use Rattle.tb_top.proofs.load.load_lines.Goals as goal

pub returns-in_err-script-in-Script-clause-loads : goal.returns-in_err-script-in-Script-clause-loads
returns-in_err-script-in-Script-clause-loads g c =
    let p = err_from_is_err_and c.from_residual.result c.from_residual.ensures.1 in
    rw (c.in-Script.is, p.1, p.2) (Loads-fails (λ script. script) (λ asked. asked) script_in
    (λ contents (script : ScriptValue). Ok (lines.Script script)) c.in_err-script-in-Script.ensures.loads)

pub returns-in_ok-script-in-Script-clause-loads : goal.returns-in_ok-script-in-Script-clause-loads
returns-in_ok-script-in-Script-clause-loads g c =
    rw c.in-Script.is (Loads-ends (λ script. script) (λ asked. asked) script_in
    (λ contents (script : ScriptValue). Ok (lines.Script script)) c.in_ok-script-in-Script.script _ (λ contents. refl) c.in_ok-script-in-Script.ensures.loads)

pub returns-in_err-script-in-Lanes-clause-loads : goal.returns-in_err-script-in-Lanes-clause-loads
returns-in_err-script-in-Lanes-clause-loads g c =
    let p = err_from_is_err_and c.from_residual-in_err-script-in-Lanes.result c.from_residual-in_err-script-in-Lanes.ensures.1 in
    rw (c.in-Lanes.is, p.1, p.2) (Loads-fails (λ script. script) (λ asked. asked) script_in
    (λ contents (script : ScriptValue). Ok (lines.Lanes script)) c.in_err-script-in-Lanes.ensures.loads)

pub returns-in_ok-script-in-Lanes-clause-loads : goal.returns-in_ok-script-in-Lanes-clause-loads
returns-in_ok-script-in-Lanes-clause-loads g c =
    rw c.in-Lanes.is (Loads-ends (λ script. script) (λ asked. asked) script_in
    (λ contents (script : ScriptValue). Ok (lines.Lanes script)) c.in_ok-script-in-Lanes.script _ (λ contents. refl) c.in_ok-script-in-Lanes.ensures.loads)

pub returns-in-Ports-clause-loads : goal.returns-in-Ports-clause-loads
returns-in-Ports-clause-loads g c =
    rw c.in-Ports.is (loads-none (λ asked. asked) _ _ _ refl refl refl tt (rw c.copy.ensures refl))
