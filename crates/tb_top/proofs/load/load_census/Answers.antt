use Rattle.std.proofs.Common.{◌∷◌, [], refl, arith}
use Rattle.std.proofs.lemmas.Result.{err_from_is_err_and}
use Rattle.tb_endings.specs.declared.endings.Input.TheVariants as input
use Rattle.tb_top.specs.Asking.{census_in, setup_in}
use Rattle.tb_top.specs.InputFiles.{named}
use Rattle.tb_top.specs.Loading.{census_value}
use Rattle.tb_top.proofs.LoadSteps.{Loads-before, Loads-fails, Loads-then, after_setup, skips-setup}
use Rattle.tb_top.proofs.load.load_census.Goals as goal

pub returns-in_err-setup-clause-loads : goal.returns-in_err-setup-clause-loads
returns-in_err-setup-clause-loads g c =
    let p = err_from_is_err_and c.from_residual.result c.from_residual.ensures.1 in
    let inputs = c.args.inputs.now in
    rw (p.1, p.2) (Loads-before census_value (census_in inputs) (named input.People inputs.people ∷ [])
    (Loads-fails (λ setup. setup) census_value (setup_in inputs) (after_setup inputs) c.in_err-setup.ensures.loads))

pub returns-clause-loads : goal.returns-clause-loads
returns-clause-loads g c =
    let inputs = c.args.inputs.now in
    Loads-then (λ setup. setup) census_value (setup_in inputs) (after_setup inputs) c.in_ok-setup.setup _
    (skips-setup inputs 3 (omega arith)) (omega arith) refl refl refl c.in_ok-setup.ensures.loads c.add_people.ensures.loads
