-- How a kind of refusal is printed.
use Rattle.std.specs.Prelude.{codes}
use Rattle.tb_rows.specs.FaultNames.{FaultNameValue}
use Rattle.tb_release.specs.declared.fault.EditFaultKind.{EditFaultKind}
use Rattle.tb_release.specs.declared.fault.EditFaultKind.TheVariants as kind

-- its number and its word
abbrev pub fault_name : EditFaultKind → FaultNameValue
fault_name kind.PersonThere = record { number = 1; word = codes "PersonThere" }
fault_name kind.NoSuchPerson = record { number = 2; word = codes "NoSuchPerson" }
fault_name kind.KeyChanged = record { number = 3; word = codes "KeyChanged" }
fault_name kind.TooMany = record { number = 4; word = codes "TooMany" }
fault_name kind.Nothing = record { number = 5; word = codes "Nothing" }
fault_name kind.BadRelease = record { number = 6; word = codes "BadRelease" }
