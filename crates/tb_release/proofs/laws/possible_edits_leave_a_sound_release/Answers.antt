use Rattle.tb_release.proofs.Chained.{stay_sound}
use Rattle.tb_release.proofs.laws.possible_edits_leave_a_sound_release.Goals as goal

pub returns : goal.returns
returns c = stay_sound
