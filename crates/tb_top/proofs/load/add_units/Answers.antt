use Rattle.std.proofs.Common.{ap, sym, Ok}
use Rattle.std.proofs.lemmas.Result.{err_from_is_err_and}
use Rattle.tb_model.specs.Units.{UnitsValue}
use Rattle.tb_top.specs.Asking.{units_in, with_units}
use Rattle.tb_top.specs.Loading.{census_value}
use Rattle.tb_top.proofs.LoadSteps.{Loads-ends, Loads-fails}
use Rattle.tb_top.proofs.load.add_units.Goals as goal

pub returns-in_err-units-clause-loads : goal.returns-in_err-units-clause-loads
returns-in_err-units-clause-loads g c =
    let p = err_from_is_err_and c.from_residual.result c.from_residual.ensures.1 in
    let census = census_value c.args.census in
    rw (p.1, p.2) (Loads-fails (λ units. units) census_value (units_in census.setup.schema)
    (λ contents (units : UnitsValue). Ok (with_units census units)) (rw c.schema_of.ensures at c.in_err-units.ensures.loads))

pub returns-clause-loads : goal.returns-clause-loads
returns-clause-loads g c =
    let census = census_value c.args.census in
    Loads-ends (λ units. units) census_value (units_in census.setup.schema) (λ contents (units : UnitsValue). Ok (with_units census units))
    c.in_ok-units.units c.with_units.result (λ contents. ap Ok (sym c.with_units.ensures.census)) (rw c.schema_of.ensures at c.in_ok-units.ensures.loads)
