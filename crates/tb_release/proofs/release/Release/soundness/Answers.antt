use Rattle.std.proofs.Common.{subst}
use Rattle.tb_release.specs.Releases.{IsSound}
use Rattle.tb_release.proofs.release.Release.soundness.Goals as goal

pub returns : goal.returns
returns c = subst IsSound c.self.view_is c.self.invariant.0.sound
