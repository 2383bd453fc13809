use Rattle.std.proofs.Common.{length}
use Rattle.tb_text.proofs.prepared.+begin_room.Given as goal

abbrev pub decreases-begin_room : goal.decreases-begin_room
decreases-begin_room l = length l.dimensions.now
