use Rattle.tb_mirror.proofs.board_follower.BoardFollowerReceiverSetting.deliver.Goals as goal

pub returns-clause-ready : goal.returns-clause-ready
returns-clause-ready g c = (c.requires.ready.0, record { owner = c.deliver.ensures.ready.1; waiting = c.deliver.ensures.own })
