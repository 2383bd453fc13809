-- What a custodian ends as, once a reference to its pass has ended.
use Rattle.std.specs.Borrow.{Lends, MutBor, Fml, RattleType}
use Rattle.tb_front.specs.contracts.pass.Pass.{the_row as pass_of}
use Rattle.tb_board.specs.contracts.custodian.Custodian.{the_row}
use Rattle.tb_board.specs.contracts.step.Start.{the_row as start_row}
use Rattle.tb_board.specs.contracts.step.Step.{the_row as step_row}
use Rattle.tb_board.specs.Custodians.{CustodianValue}
use Rattle.tb_board.specs.Holders.{HolderValue}
use Rattle.tb_board.specs.Starts.{blank_start}

-- a custodian with another pass
abbrev pub with_pass : CustodianValue → HolderValue → CustodianValue
with_pass custodian pass = record custodian { pass = pass }

-- the type of its pass
abbrev the_pass_row : RattleType
the_pass_row = pass_of step_row start_row (record { blank = blank_start })

-- it ends with the last pass behind the reference
abbrev pub LendsPass : MutBor CustodianValue → MutBor HolderValue → Fml
LendsPass custodian pass =
    Lends the_row the_pass_row custodian pass (with_pass custodian.now)
