-- How a fault of an edit line is printed.
use Rattle.std.specs.Prelude.{codes, Option, Some, None}
use Rattle.tb_rows.specs.FaultNames.{FaultNameValue}
use Rattle.tb_revise.specs.declared.fault.EditTextFault.{EditTextFault}
use Rattle.tb_revise.specs.declared.fault.EditTextFault.TheVariants as faults

-- its number and its word; want of memory has none
abbrev pub fault_name : EditTextFault → Option FaultNameValue
fault_name faults.Syntax = Some (record { number = 1; word = codes "Syntax" })
fault_name faults.BadNumber = Some (record { number = 2; word = codes "BadNumber" })
fault_name faults.UnknownName = Some (record { number = 3; word = codes "UnknownName" })
fault_name faults.UnknownCode = Some (record { number = 4; word = codes "UnknownCode" })
fault_name faults.Repeated = Some (record { number = 5; word = codes "Repeated" })
fault_name faults.Missing = Some (record { number = 6; word = codes "Missing" })
fault_name faults.Memory = None

-- that of an edit by which more would be held than may be: it follows those of a line
abbrev pub too_many : FaultNameValue
too_many = record { number = 7; word = codes "TooMany" }
