use Rattle.std.proofs.Common.{◌≡◌, ◌≤◌, map, take, length}
use Rattle.std.specs.List.{concat}
use Rattle.tb_io.proofs.pieces.put_together.Given as goal

-- the pieces so far stand in front
abbrev pub invariant-loop-piece : goal.invariant-loop-piece
invariant-loop-piece l = record {
  within : l.len ≤ 128;
  long : length l.line ≡ length l.initial.line;
  text : take l.len l.line ≡ concat (take l.piece-index (map (λ p. p.now) l.pieces));
}
