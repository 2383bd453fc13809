use Rattle.std.proofs.Common.{ℕ, ◌<◌, get_or}
use Rattle.std.specs.Prelude.{IsSome}
use Rattle.tb_lanes.specs.declared.lane.Lane.{Lane}
use Rattle.tb_lanes.proofs.writing.all_tell.Given as goal

-- the sinks of the lanes so far tell
abbrev pub invariant-loop-lane : goal.invariant-loop-lane
invariant-loop-lane g l = (n : ℕ) (d : Lane g.row.G.Denot) → n < l.lane-index → IsSome (get_or l.lanes n d).sink
