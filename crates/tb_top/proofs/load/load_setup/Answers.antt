use Rattle.std.proofs.Common.{◌∷◌, [], refl, arith}
use Rattle.std.proofs.lemmas.Result.{err_from_is_err_and}
use Rattle.tb_endings.specs.declared.endings.Input.TheVariants as input
use Rattle.tb_top.specs.Asking.{schema_in, setup_in, setup_over}
use Rattle.tb_top.specs.InputFiles.{named}
use Rattle.tb_top.proofs.LoadSteps.{Loads-before, Loads-fails, Loads-then, skips-schema}
use Rattle.tb_top.proofs.load.load_setup.Goals as goal

pub returns-in_err-schema : goal.returns-in_err-schema
returns-in_err-schema g c =
    let p = err_from_is_err_and c.from_residual.result c.from_residual.ensures.1 in
    let inputs = c.args.inputs.now in
    record {
      loads = rw (p.1, p.2) (Loads-before (λ setup. setup) (setup_in inputs) (named input.Ptable inputs.ptable ∷ [])
          (Loads-fails (λ schema. schema) (λ setup. setup) (schema_in inputs.recodes) (λ contents schema. setup_over schema contents)
          c.in_err-schema.ensures.loads));
    }

pub returns : goal.returns
returns g c =
    let inputs = c.args.inputs.now in
    record {
      loads = Loads-then (λ schema. schema) (λ setup. setup) (schema_in inputs.recodes) (λ contents schema. setup_over schema contents)
          c.in_ok-schema.schema _ (skips-schema inputs.recodes 2 (omega arith)) (omega arith) refl refl refl
          c.in_ok-schema.ensures.loads c.add_ptable.ensures.loads;
    }
