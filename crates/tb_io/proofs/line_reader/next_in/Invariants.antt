use Rattle.std.proofs.Common.{◌≡◌, ◌≤◌, ◌-◌, false, length, take}
use Rattle.tb_io.specs.Lines.{has_line_feed}
use Rattle.tb_io.specs.declared.room.TheConstants.{ROOM}
use Rattle.tb_io.proofs.NextLemmas.{Gathered}
use Rattle.tb_io.proofs.line_reader.next_in.Given as goal

-- what was gathered, the known ones are no line feeds, and no read said that nothing is left
abbrev pub invariant-pieces : goal.invariant-pieces
invariant-pieces g l = record {
  count : g.S.Source.faults l.initial.source ≤ g.S.Source.faults l.source;
  goes_on : l.ended ≡ false;
  within : l.known ≤ length l.room.ahead;
  known : has_line_feed (take l.known l.room.ahead) ≡ false;
  so_far : Gathered (g.S.Source.left l.initial.source) (g.S.Source.left l.source) l.initial.room.ahead l.room.ahead;
}

-- the room that is left
abbrev pub decreases-pieces : goal.decreases-pieces
decreases-pieces g l = ROOM - length l.room.ahead
