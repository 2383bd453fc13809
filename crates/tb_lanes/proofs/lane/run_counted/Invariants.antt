use Rattle.std.proofs.Common.{◌<◌, ◌≤◌, ℕ, length, take}
use Rattle.tb_model.specs.Schemas.{shape_of}
use Rattle.tb_lanes.specs.Lanes.{Ran}
use Rattle.tb_lanes.specs.Phases.{lane_at, lines_in}
use Rattle.tb_script.specs.Scripts.{nth_line}
use Rattle.tb_session.specs.Parties.{IsPartyOf}
use Rattle.tb_lanes.proofs.lane.run_counted.Given as goal

-- the lane's lines so far were answered, and the others stand in this phase or a later one
abbrev pub invariant-loop-i : goal.invariant-loop-i
invariant-loop-i g l = record {
  own : IsPartyOf g.B.Named.name (shape_of l.setup.schema) l.lane.party;
  later : (j : ℕ) → l.i ≤ j → j < length l.script.lines → l.phase ≤ (nth_line l.script j).phase;
  ran : Ran l.setup (lines_in l.phase (lane_at l.script l.n) (take l.i l.script.lines)) l.fn.lane.party l.lane.sink
      l.lane.spoke l.lane.party;
}
