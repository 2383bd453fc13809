-- The numbers of the program's statuses.
use Rattle.std.specs.Prelude.{ℕ}
use Rattle.tb_base.specs.declared.status.Status.{Status}
use Rattle.tb_base.specs.declared.status.Status.TheVariants.{Done, Usage, Schema, Perturbation}
use Rattle.tb_base.specs.declared.status.Status.TheVariants.{Microdata, Script, ReadFault}
use Rattle.tb_base.specs.declared.status.Status.TheVariants.{WriteFault, Memory, NetFault}
use Rattle.tb_base.specs.declared.status.Status.TheVariants.{Journal, DiskFault, Units}

-- the number with which the program ends; 1 is left to the runtime
abbrev pub number_of : Status → ℕ
number_of Done = 0
number_of Usage = 2
number_of Schema = 3
number_of Perturbation = 4
number_of Microdata = 5
number_of Script = 6
number_of ReadFault = 7
number_of WriteFault = 8
number_of Memory = 9
number_of NetFault = 10
number_of Journal = 11
number_of DiskFault = 12
number_of Units = 13
