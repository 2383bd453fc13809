use Rattle.std.proofs.Common.{◌∷◌, [], refl, Ok, Err, arith}
use Rattle.std.proofs.lemmas.Result.{err_from_is_err_and}
use Rattle.tb_script.specs.Scripts.{ScriptValue}
use Rattle.tb_endings.specs.declared.endings.Input.TheVariants as input
use Rattle.tb_top.specs.Asking.{◌>>=◌, census_in, script_in, scripted_in}
use Rattle.tb_top.specs.InputFiles.{named}
use Rattle.tb_top.specs.Loading.{census_value, scripted_value}
use Rattle.tb_top.proofs.LoadSteps.{Loads-before, Loads-ends, Loads-fails, Loads-then, skips-census}
use Rattle.tb_top.proofs.load.load_scripted.Goals as goal

pub returns-in_err-census-clause-loads : goal.returns-in_err-census-clause-loads
returns-in_err-census-clause-loads g c =
    let p = err_from_is_err_and c.from_residual.result c.from_residual.ensures.1 in
    let inputs = c.args.inputs.now in
    rw (p.1, p.2) (Loads-before scripted_value (scripted_in inputs) (named input.Script c.args.script.now ∷ [])
    (Loads-fails census_value scripted_value (census_in inputs)
    (λ contents census. script_in contents >>= (λ script. Ok (census, script))) c.in_err-census.ensures.loads))

pub returns-in_err-script-clause-loads : goal.returns-in_err-script-clause-loads
returns-in_err-script-clause-loads g c =
    let p = err_from_is_err_and c.from_residual-in_err-script.result c.from_residual-in_err-script.ensures.1 in
    let inputs = c.args.inputs.now in
    rw (p.1, p.2) (Loads-then census_value scripted_value (census_in inputs)
    (λ contents census. script_in contents >>= (λ script. Ok (census, script))) c.in_ok-census.census (Err _)
    (skips-census inputs 6 (omega arith)) (omega arith) refl refl refl c.in_ok-census.ensures.loads
    (Loads-fails (λ script. script) scripted_value script_in
    (λ contents (script : ScriptValue). Ok (census_value c.in_ok-census.census, script)) c.in_err-script.ensures.loads))

pub returns-clause-loads : goal.returns-clause-loads
returns-clause-loads g c =
    let inputs = c.args.inputs.now in
    Loads-then census_value scripted_value (census_in inputs)
    (λ contents census. script_in contents >>= (λ script. Ok (census, script))) c.in_ok-census.census _ (skips-census inputs 6 (omega arith))
    (omega arith) refl refl refl c.in_ok-census.ensures.loads
    (Loads-ends (λ script. script) scripted_value script_in
    (λ contents (script : ScriptValue). Ok (census_value c.in_ok-census.census, script)) c.in_ok-script.script
    (record { census = c.in_ok-census.census; script = c.in_ok-script.script }) (λ contents. refl) c.in_ok-script.ensures.loads)
