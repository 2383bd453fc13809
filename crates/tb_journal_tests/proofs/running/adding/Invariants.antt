use Rattle.std.proofs.Common.{All}
use Rattle.tb_spelling.specs.Payloads.{CanBeWritten}
use Rattle.tb_journal_tests.proofs.running.adding.Given as goal

abbrev pub invariant-loop-i : goal.invariant-loop-i
invariant-loop-i l = All CanBeWritten l.edits
