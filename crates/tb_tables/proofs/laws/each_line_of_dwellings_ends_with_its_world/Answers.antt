use Rattle.tb_tables.proofs.HomesLines.{homes_table_shows_worlds}
use Rattle.tb_tables.proofs.laws.each_line_of_dwellings_ends_with_its_world.Goals as goal

pub returns : goal.returns
returns c = homes_table_shows_worlds
