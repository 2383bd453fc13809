use Rattle.std.proofs.Common.{◌≡◌}
use Rattle.tb_board.specs.Custodians.{IsWhole}
use Rattle.tb_board_tests.proofs.publications.publish_all.Given as goal

-- the custodian is whole
abbrev pub invariant-loop-gone : goal.invariant-loop-gone
invariant-loop-gone g l =
    (l.custodian.writer.name ≡ g.B.Named.name) × (IsWhole l.custodian × (l.custodian.writer.start.shape ≡ l.shape))
