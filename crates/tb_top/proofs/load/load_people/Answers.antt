use Rattle.std.proofs.Common.{◌≡◌, ap, Ok}
use Rattle.std.proofs.lemmas.Result.{err_from_is_err_and}
use Rattle.tb_endings.specs.declared.endings.Input.TheVariants as input
use Rattle.tb_records.specs.FaultNames.{fault_name as people_name}
use Rattle.tb_records.specs.People.{people_of}
use Rattle.tb_top.specs.Asking.{census_bytes, census_bytes_in, or_end}
use Rattle.tb_endings.specs.Refusals.{file_end}
use Rattle.tb_top.proofs.LoadSteps.{all_of, Loads-ends, Loads-fails, Loads-refused}
use Rattle.tb_top.proofs.load.load_people.Goals as goal

pub returns-in_err-bytes-clause-loads : goal.returns-in_err-bytes-clause-loads
returns-in_err-bytes-clause-loads g c =
    let p = err_from_is_err_and c.from_residual.result c.from_residual.ensures.1 in
    rw (p.1, p.2) (Loads-fails (λ bytes. bytes.items) all_of (λ contents. census_bytes_in c.args.schema.now input.People (contents input.People))
    (λ contents bytes. or_end (file_end input.People people_name) (people_of c.args.schema.now bytes)) (rw c.census_bytes_of-most.ensures at c.in_err-bytes.ensures.loads))

pub returns-in-Ok-clause-loads : goal.returns-in-Ok-clause-loads
returns-in-Ok-clause-loads g c =
    let read : people_of c.args.schema.now c.in_ok-bytes.bytes.items ≡ Ok (all_of c.in-Ok.people) = rw
    (← c.deref.ensures.value) c.in-Ok.ensures.ok in
    Loads-ends (λ bytes. bytes.items) all_of (λ contents. census_bytes_in c.args.schema.now input.People (contents input.People))
    (λ contents bytes. or_end (file_end input.People people_name)
    (people_of c.args.schema.now bytes)) c.in_ok-bytes.bytes c.in-Ok.people
    (λ contents. ap (or_end (file_end input.People people_name)) read) (rw c.census_bytes_of-most.ensures at c.in_ok-bytes.ensures.loads)

pub returns-clause-loads : goal.returns-clause-loads
returns-clause-loads g c =
    rw c.of.ensures (Loads-refused (λ bytes. bytes.items) all_of (census_bytes c.args.schema.now) input.People people_name
    (people_of c.args.schema.now) c.in_ok-bytes.bytes c.in-Err.fault
    (λ k. cc) (rw (← c.deref.ensures.value) c.in-Err.ensures.refused) (rw c.census_bytes_of-most.ensures at c.in_ok-bytes.ensures.loads))
