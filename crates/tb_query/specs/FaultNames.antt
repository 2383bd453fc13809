-- How a fault of a query line is printed.
use Rattle.std.specs.Prelude.{ℕ, codes, Option, Some, None}
use Rattle.tb_rows.specs.FaultNames.{FaultNameValue}
use Rattle.tb_query.specs.declared.fault.QueryFault.{QueryFault}
use Rattle.tb_query.specs.declared.fault.QueryFault.TheVariants as faults

-- its number and its word; want of memory has none
abbrev pub fault_name : QueryFault → Option FaultNameValue
fault_name (faults.NotText i) = Some (record { number = 1; word = codes "NotText" })
fault_name (faults.Syntax i) = Some (record { number = 2; word = codes "Syntax" })
fault_name (faults.UnknownName i) = Some (record { number = 3; word = codes "UnknownName" })
fault_name (faults.UnknownCode i) = Some (record { number = 4; word = codes "UnknownCode" })
fault_name (faults.RepeatedDimension i) =
    Some (record { number = 5; word = codes "RepeatedDimension" })
fault_name faults.TooManyDimensions = Some (record { number = 6; word = codes "TooManyDimensions" })
fault_name faults.TooManyFilters = Some (record { number = 7; word = codes "TooManyFilters" })
fault_name faults.TooLarge = Some (record { number = 8; word = codes "TooLarge" })
fault_name faults.Memory = None

-- the number of the byte or token that it names, if it names one
abbrev pub fault_position : QueryFault → Option ℕ
fault_position (faults.NotText i) = Some i
fault_position (faults.Syntax i) = Some i
fault_position (faults.UnknownName i) = Some i
fault_position (faults.UnknownCode i) = Some i
fault_position (faults.RepeatedDimension i) = Some i
fault_position _ = None
