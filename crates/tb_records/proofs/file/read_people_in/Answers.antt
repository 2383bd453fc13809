use Rattle.std.specs.Prelude.{flat_map}
use Rattle.tb_records.proofs.Fitting.{people-fit}
use Rattle.tb_records.proofs.file.read_people_in.Goals as goal

pub returns-in-Ok-Some-clause-fit : goal.returns-in-Ok-Some-clause-fit
returns-in-Ok-Some-clause-fit g c =
    (people-fit c.args.schema.now c.args.file.now (flat_map (λ list. list.items) c.in-Ok-Some.lists.items) (rw c.in-Ok-Some.field-0-is at c.in-Ok-Some.ensures.ok)).0
