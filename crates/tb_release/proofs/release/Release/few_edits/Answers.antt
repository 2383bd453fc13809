use Rattle.std.proofs.Common.{◌≤◌, subst}
use Rattle.tb_model.specs.Releases.{ReleaseValue}
use Rattle.tb_release.specs.declared.limits.TheConstants.{MOST_CHANGES}
use Rattle.tb_release.proofs.release.Release.few_edits.Goals as goal

pub returns : goal.returns
returns c = subst (λ (r : ReleaseValue). r.edits ≤ MOST_CHANGES) c.self.view_is c.self.invariant.0.few
