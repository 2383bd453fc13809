use Rattle.tb_text.proofs.WorldLines.{table_shows_worlds}
use Rattle.tb_text.proofs.laws.each_line_ends_with_its_world.Goals as goal

pub returns : goal.returns
returns c = table_shows_worlds
