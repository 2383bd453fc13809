use Rattle.std.proofs.Common.{◌≡◌, ◌≤◌, length}
use Rattle.std.specs.Prelude.{All}
use Rattle.tb_io.specs.Taken.{Took}
use Rattle.tb_lanes.specs.Phases.{PhasesGo, Progress, begun_with}
use Rattle.tb_lanes.specs.Runs.{Stand}
use Rattle.tb_model.specs.Schemas.{shape_of}
use Rattle.tb_script.specs.Scripts.{lanes_of}
use Rattle.tb_session.specs.Parties.{IsAnalystOf, IsOwnerOf, seen_by, state_of}
use Rattle.tb_lanes.proofs.run.run_phases.Given as goal

-- the phases so far led to where all stand, and their text was taken
abbrev pub invariant-loop-before : goal.invariant-loop-before
invariant-loop-before g l = record {
  own : IsOwnerOf g.B.Named.name (shape_of l.setup.schema) l.own;
  analysts : All (λ lane. IsAnalystOf g.B.Named.name (shape_of l.setup.schema) lane.party) l.lanes;
  all : length l.lanes ≡ length (lanes_of l.script.lines);
  count : g.K.Sink.faults l.fn.sink ≤ g.K.Sink.faults l.sink;
  so_far : (at : Progress)
      × PhasesGo l.setup (seen_by l.fn.own).start.base l.script l.before (begun_with (state_of l.fn.own)) at
      × Stand (seen_by l.fn.own).start.base l.script l.own l.lanes at.standing
      × Took (g.K.Sink.taken l.fn.sink) (g.K.Sink.taken l.sink) at.text;
}
