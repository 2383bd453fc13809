-- What is said of a fault.
use Rattle.std.specs.Prelude.{◌≡◌, ◌≢◌, ℕ, Result, Ok, Err}
use Rattle.tb_rows.specs.Formats.{at_record}
use Rattle.tb_rows.specs.declared.fault.Fault.{Fault}
use Rattle.tb_rows.specs.declared.fault.Fault.TheVariants as file_fault
use Rattle.tb_schema.specs.declared.fault.ClassFile.{ClassFile}
use Rattle.tb_schema.specs.declared.fault.SchemaFault.{SchemaFault}
use Rattle.tb_schema.specs.declared.fault.SchemaFault.TheVariants as fault
use Rattle.tb_schema.specs.declared.fault.SchemaKind.{SchemaKind}

-- it is the one of record n, which says this, or there is no more memory
abbrev pub IsFaultOf : {A : Type 0} → ℕ → Result A SchemaKind → Fault SchemaKind → Type 0
IsFaultOf n says e = e ≢ file_fault.Memory → at_record n says ≡ Err e

-- what was read of one of the two files
abbrev pub in_file : {A : Type 0} → ClassFile → Result A (Fault SchemaKind) → Result A SchemaFault
in_file file (Ok x) = Ok x
in_file file (Err (file_fault.Refused kind n)) = Err (fault.Refused file kind n)
in_file file (Err file_fault.Memory) = Err fault.Memory
