use Rattle.std.proofs.Common.{refl, Ok}
use Rattle.std.proofs.lemmas.Result.{err_from_is_err_and}
use Rattle.tb_model.specs.Releases.{ReleaseValue}
use Rattle.tb_top.specs.Asking.{base_in, census_over}
use Rattle.tb_top.specs.Loading.{census_value}
use Rattle.tb_top.proofs.LoadSteps.{Loads-ends, Loads-fails}
use Rattle.tb_top.proofs.load.add_people.Goals as goal

pub returns-in_err-release-clause-loads : goal.returns-in_err-release-clause-loads
returns-in_err-release-clause-loads g c =
    let p = err_from_is_err_and c.from_residual.result c.from_residual.ensures.1 in
    let setup = c.args.setup in
    rw (p.1, p.2) (Loads-fails (λ base. base) census_value (base_in c.args.inputs.now setup.schema)
    (λ contents (base : ReleaseValue). Ok (census_over setup base)) (rw c.schema_of.ensures at c.in_err-release.ensures.loads))

pub returns-clause-loads : goal.returns-clause-loads
returns-clause-loads g c =
    let setup = c.args.setup in
    Loads-ends (λ base. base) census_value (base_in c.args.inputs.now setup.schema)
    (λ contents (base : ReleaseValue). Ok (census_over setup base)) c.in_ok-release.release _ (λ contents. refl) (rw c.schema_of.ensures at c.in_ok-release.ensures.loads)
