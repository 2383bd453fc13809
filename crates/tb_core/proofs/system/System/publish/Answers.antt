use Rattle.tb_core.proofs.StepLemmas.{published_keeps}
use Rattle.tb_core.proofs.system.System.publish.Goals as goal

pub returns-clause-sound : goal.returns-clause-sound
returns-clause-sound c =
    let d = c.args.self.now.desk in
    rw c.in_ok-publish.ensures (published_keeps d c.args.edits.now c.args.self.now.callers.items (rw c.in_ok-publish.ensures at c.soundness.ensures) c.requires)
