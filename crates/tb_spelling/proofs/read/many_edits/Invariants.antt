use Rattle.std.proofs.Common.{◌≡◌, ◌-◌, length}
use Rattle.tb_spelling.specs.Fields.{many_at}
use Rattle.tb_spelling.specs.Reading.{edit_at}
use Rattle.tb_spelling.proofs.Rereading.{with_front}
use Rattle.tb_spelling.proofs.read.many_edits.Given as goal

abbrev pub invariant-loop : goal.invariant-loop
invariant-loop l = record {
  reads : with_front edit_at l.edits (many_at edit_at (l.count - l.counter) l.rest) ≡ many_at edit_at l.count l.bytes;
  number : length l.edits ≡ l.counter;
}
