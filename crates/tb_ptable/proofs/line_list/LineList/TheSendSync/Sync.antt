-- It owns nothing, so threads may share it.
use denote.Param.Send.{IsSync, part_keyless}
use Rattle.tb_ptable.specs.contracts.line_list.LineList.{the_row}
use Rattle.tb_ptable.proofs.line_list.LineList.TheSendSync.Send.{send}

pub sync : IsSync the_row
sync = record { shared = λ d b o κ q. part_keyless the_row send q d b o }
