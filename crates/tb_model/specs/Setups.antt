-- What a server is given beside the microdata.
use Rattle.std.specs.Prelude.{ℕ, List, Option}
use Rattle.tb_model.specs.declared.names.PerturbationLine.{PerturbationLine}
use Rattle.tb_model.specs.Schemas.{SchemaValue}
use Rattle.tb_model.specs.Units.{UnitsValue}

-- the classification, the perturbation table's lines, and dwellings where there are any
pub record SetupValue : Type 0 where
  pub schema : SchemaValue
  pub lines : List PerturbationLine
  pub units : Option UnitsValue
