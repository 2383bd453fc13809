use Rattle.std.proofs.Common.{ap, sym, Ok}
use Rattle.std.proofs.lemmas.Result.{err_from_is_err_and}
use Rattle.tb_command.specs.declared.command.Owner.{Owner}
use Rattle.tb_top.specs.Asking.{asked_with, lines_over}
use Rattle.tb_top.specs.declared.asked.AskedLines.{AskedLines}
use Rattle.tb_top.specs.Loading.{asked_value, census_value}
use Rattle.tb_top.proofs.LoadSteps.{Loads-ends, Loads-fails}
use Rattle.tb_top.proofs.load.with_lines.Goals as goal

pub returns-in_err-lines-clause-loads : goal.returns-in_err-lines-clause-loads
returns-in_err-lines-clause-loads g c =
    let p = err_from_is_err_and c.from_residual.result c.from_residual.ensures.1 in
    let task = c.args.task.now in
    rw (p.1, p.2) (Loads-fails (λ asked. asked) asked_value (lines_over task.lines)
    (λ contents (lines : AskedLines). Ok (asked_with (census_value c.args.census) task.owner lines)) c.in_err-lines.ensures.loads)

pub returns-clause-loads : goal.returns-clause-loads
returns-clause-loads g c =
    let task = c.args.task.now in
    let census = census_value c.args.census in
    Loads-ends (λ asked. asked) asked_value (lines_over task.lines)
    (λ contents (lines : AskedLines). Ok (asked_with census task.owner lines)) c.in_ok-lines.lines _
    (λ contents. ap (λ (by : Owner). Ok (asked_with census by c.in_ok-lines.lines)) (sym c.copy.ensures)) c.in_ok-lines.ensures.loads
