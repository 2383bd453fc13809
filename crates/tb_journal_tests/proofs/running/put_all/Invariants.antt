use Rattle.tb_journal_tests.specs.Ready.{IsReady}
use Rattle.tb_journal_tests.specs.declared.running.TheConstants.{MOST_BATCHES}
use Rattle.tb_journal_tests.proofs.running.put_all.Given as goal

abbrev pub invariant-loop-i : goal.invariant-loop-i
invariant-loop-i l = IsReady l.disk l.journal MOST_BATCHES
