use Rattle.std.proofs.Common.{refl, Ok}
use Rattle.std.proofs.lemmas.Result.{err_from_is_err_and}
use Rattle.tb_ptable.specs.Table.{TableValue}
use Rattle.tb_top.specs.Asking.{perturbation_in}
use Rattle.tb_top.proofs.LoadSteps.{Loads-ends, Loads-fails, setup_with}
use Rattle.tb_top.proofs.load.add_ptable.Goals as goal

pub returns-in_err-ptable : goal.returns-in_err-ptable
returns-in_err-ptable g c =
    let p = err_from_is_err_and c.from_residual.result c.from_residual.ensures.1 in
    let schema = c.args.schema in
    record {
      loads = rw (p.1, p.2) (Loads-fails (λ table. table) (λ setup. setup) (perturbation_in schema.keys)
          (λ contents (table : TableValue). Ok (setup_with schema table)) (rw c.keys.ensures at c.in_err-ptable.ensures.loads));
    }

pub returns : goal.returns
returns g c =
    let schema = c.args.schema in
    record {
      loads = Loads-ends (λ table. table) (λ setup. setup) (perturbation_in schema.keys)
          (λ contents (table : TableValue). Ok (setup_with schema table)) c.in_ok-ptable.ptable _ (λ contents. refl)
          (rw c.keys.ensures at c.in_ok-ptable.ensures.loads);
    }
