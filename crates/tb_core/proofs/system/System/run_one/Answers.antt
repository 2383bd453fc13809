use Rattle.tb_core.proofs.system.System.run_one.Goals as goal

pub returns-in-Clear-clause-sound : goal.returns-in-Clear-clause-sound
returns-in-Clear-clause-sound g c = rw c.clear.ensures c.requires

pub returns-in_ok-resize-in-Resize-1-to-256-false-clause-sound : goal.returns-in_ok-resize-in-Resize-1-to-256-false-clause-sound
returns-in_ok-resize-in-Resize-1-to-256-false-clause-sound g c = rw c.in_ok-resize-in-Resize-1-to-256-false.ensures.ok c.requires
