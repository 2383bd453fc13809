use Rattle.tb_rows.proofs.WholeFiles.{refused_where}
use Rattle.tb_units.specs.Dwellings.{dwellings_file}
use Rattle.tb_units.specs.WholeFiles.{AreDwellings}
use Rattle.tb_units.proofs.WholeFiles.{are_dwellings}
use Rattle.tb_units.proofs.laws.refused_dwellings.Goals as goal

pub returns : goal.returns
returns c = λ most keys. refused_where (dwellings_file most keys) (AreDwellings most) (are_dwellings most keys)
