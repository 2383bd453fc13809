use Rattle.tb_top.proofs.Boards.{run-on-board}
use Rattle.tb_top.proofs.top.answer_on_board.Goals as goal

pub returns : goal.returns
returns g c =
    let run = c.run_script-end.ensures in
    run-on-board c.args.setup.now c.args.opening _ c.args.script.now c.run_script-end.result _ _ _ _ _ c.new-board.ensures.custodian c.requires.first
    c.end_run.ensures.count run.count run.failed run.run c.end_run.ensures.ended
