use Rattle.std.proofs.Common.{refl, arith}
use Rattle.std.proofs.lemmas.Result.{err_from_is_err_and}
use Rattle.tb_top.specs.Asking.{census_in}
use Rattle.tb_top.specs.InputFiles.{input_files}
use Rattle.tb_top.specs.Loading.{census_value}
use Rattle.tb_top.proofs.LoadSteps.{Loads-none-more, Loads-then, after_census, census-of-fails, skips-census}
use Rattle.tb_top.proofs.load.load_counted.Goals as goal

pub returns-in_err-census-clause-loads : goal.returns-in_err-census-clause-loads
returns-in_err-census-clause-loads g c =
    let p = err_from_is_err_and c.from_residual.result c.from_residual.ensures.1 in
    rw (p.1, p.2) (census-of-fails c.args.inputs.now c.args.units.now c.in_err-census.ensures.loads)

pub returns-in-Some-clause-loads : goal.returns-in-Some-clause-loads
returns-in-Some-clause-loads g c =
    let inputs = c.args.inputs.now in
    rw c.in-Some.is (Loads-then census_value census_value (census_in inputs) after_census c.in_ok-census.census _
    (skips-census inputs 4 (omega arith)) (omega arith) refl refl refl c.in_ok-census.ensures.loads c.add_units.ensures.loads)

pub returns-in-None-clause-loads : goal.returns-in-None-clause-loads
returns-in-None-clause-loads g c =
    let inputs = c.args.inputs.now in
    rw c.in-None.is (Loads-none-more census_value (census_in inputs) (input_files inputs) _ c.in_ok-census.ensures.loads)
