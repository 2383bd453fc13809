use Rattle.std.proofs.Common.{◌≡◌, ap, Ok}
use Rattle.std.proofs.lemmas.Result.{err_from_is_err_and}
use Rattle.tb_endings.specs.declared.endings.Input.TheVariants as input
use Rattle.tb_ptable.specs.FaultNames.{fault_name as ptable_name}
use Rattle.tb_ptable.specs.Lines.{perturbation_of}
use Rattle.tb_top.specs.Asking.{bytes_in, most_bytes, or_end}
use Rattle.tb_endings.specs.Refusals.{file_end}
use Rattle.tb_top.proofs.LoadSteps.{Loads-ends, Loads-fails, Loads-refused}
use Rattle.tb_top.proofs.load.load_ptable.Goals as goal

pub returns-in_err-bytes-clause-loads : goal.returns-in_err-bytes-clause-loads
returns-in_err-bytes-clause-loads g c =
    let p = err_from_is_err_and c.from_residual.result c.from_residual.ensures.1 in
    rw (p.1, p.2) (Loads-fails (λ bytes. bytes.items) (λ table. table) (λ contents. bytes_in input.Ptable (contents input.Ptable))
    (λ contents bytes. or_end (file_end input.Ptable ptable_name) (perturbation_of c.args.keys bytes)) c.in_err-bytes.ensures.loads)

pub returns-in-Ok-clause-loads : goal.returns-in-Ok-clause-loads
returns-in-Ok-clause-loads g c =
    let read : perturbation_of c.args.keys c.in_ok-bytes.bytes.items ≡ Ok c.in-Ok.ptable = rw (← c.deref.ensures.value) c.in-Ok.ensures.ok in
    Loads-ends (λ bytes. bytes.items) (λ table. table) (λ contents. bytes_in input.Ptable (contents input.Ptable))
    (λ contents bytes. or_end (file_end input.Ptable ptable_name) (perturbation_of c.args.keys bytes)) c.in_ok-bytes.bytes c.in-Ok.ptable
    (λ contents. ap (or_end (file_end input.Ptable ptable_name)) read) c.in_ok-bytes.ensures.loads

pub returns-clause-loads : goal.returns-clause-loads
returns-clause-loads g c =
    rw c.of.ensures (Loads-refused (λ bytes. bytes.items) (λ table. table) (most_bytes input.Ptable) input.Ptable ptable_name (perturbation_of c.args.keys) c.in_ok-bytes.bytes c.in-Err.fault
    (λ k. cc) (rw (← c.deref.ensures.value) c.in-Err.ensures.refused) c.in_ok-bytes.ensures.loads)
