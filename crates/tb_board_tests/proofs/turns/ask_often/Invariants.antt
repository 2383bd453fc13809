use Rattle.tb_front.specs.Holders.{IsLater}
use Rattle.tb_board_tests.proofs.turns.ask_often.Given as goal

-- the pass has seen more
abbrev pub invariant-loop-asked : goal.invariant-loop-asked
invariant-loop-asked g l = IsLater l.fn.pass l.pass
