use Rattle.std.proofs.Common.{refl, arith}
use Rattle.std.proofs.lemmas.Result.{err_from_is_err_and}
use Rattle.tb_top.specs.Asking.{asked_after, census_of, task_over}
use Rattle.tb_top.specs.InputFiles.{lines_files}
use Rattle.tb_top.specs.Loading.{asked_value, census_value}
use Rattle.tb_top.proofs.LoadSteps.{Loads-before, Loads-fails, Loads-then, skips-census-of}
use Rattle.tb_top.proofs.load.load_task.Goals as goal

pub returns-in_err-census-clause-loads : goal.returns-in_err-census-clause-loads
returns-in_err-census-clause-loads g c =
    let p = err_from_is_err_and c.from_residual.result c.from_residual.ensures.1 in
    let task = c.args.task.now in
    rw (p.1, p.2) (Loads-before asked_value (task_over task) (lines_files task.lines)
    (Loads-fails census_value asked_value (census_of task.inputs task.units) (λ contents census. asked_after task census contents)
    c.in_err-census.ensures.loads))

pub returns-clause-loads : goal.returns-clause-loads
returns-clause-loads g c =
    let task = c.args.task.now in
    Loads-then census_value asked_value (census_of task.inputs task.units) (λ contents census. asked_after task census contents)
    c.in_ok-census.census _ (skips-census-of task.inputs task.units 6 (omega arith)) (omega arith) refl refl refl
    c.in_ok-census.ensures.loads c.with_lines.ensures.loads
