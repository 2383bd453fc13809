use Rattle.std.proofs.Common.{◌≤◌, map, take}
use Rattle.std.specs.List.{concat}
use Rattle.tb_io.specs.Taken.{Took}
use Rattle.tb_io.proofs.pieces.write_each.Given as goal

-- the pieces so far were taken
abbrev pub invariant-loop-piece : goal.invariant-loop-piece
invariant-loop-piece g l = record {
  count : g.O.Sink.faults l.initial.out ≤ g.O.Sink.faults l.out;
  took : Took (g.O.Sink.taken l.initial.out) (g.O.Sink.taken l.out) (concat (take l.piece-index (map (λ p. p.now) l.pieces)));
}
