use Rattle.tb_rows.proofs.WholeFiles.{accepted_where}
use Rattle.tb_units.specs.Dwellings.{dwellings_file}
use Rattle.tb_units.specs.WholeFiles.{AreDwellings}
use Rattle.tb_units.proofs.WholeFiles.{are_dwellings}
use Rattle.tb_units.proofs.laws.accepted_dwellings.Goals as goal

pub returns : goal.returns
returns c = λ most keys. accepted_where (dwellings_file most keys) (AreDwellings most) (are_dwellings most keys)
