-- When a record of a classification is refused for its key range, and when for its limit of
-- persons.
use Rattle.std.specs.Prelude.{◌≡◌, ◌↔◌, ℕ, List, Err}
use Rattle.tb_rows.specs.Formats.{step_of}
use Rattle.tb_schema.specs.Classes.{ClassesValue, classes_file}
use Rattle.tb_schema.specs.KeyRanges.{HasBadKeys}
use Rattle.tb_schema.specs.PersonLimits.{HasBadPersons}
use Rattle.tb_schema.specs.declared.fault.SchemaKind.TheVariants.{BadKeys, BadPersons}

-- exactly where its variable is `*`, its code isn't `persons`, and it isn't record 1, its code
-- isn't `keys`, or its label is none of a key range; whatever stands before it
abbrev pub BadKeysComesExactly : Type 0
BadKeysComesExactly =
    (n : ℕ) (so_far : ClassesValue) (fields : List (List ℕ))
    → (step_of classes_file n so_far fields ≡ Err BadKeys) ↔ HasBadKeys n fields

-- exactly where its variable is `*` and its code `persons`, and there is a limit or a variable
-- before it, or its label is no number from 1 to the most
abbrev pub BadPersonsComesExactly : Type 0
BadPersonsComesExactly =
    (n : ℕ) (so_far : ClassesValue) (fields : List (List ℕ))
    → (step_of classes_file n so_far fields ≡ Err BadPersons)
    ↔ HasBadPersons so_far.persons so_far.variables fields
