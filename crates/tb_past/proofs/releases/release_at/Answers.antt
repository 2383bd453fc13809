use Rattle.std.proofs.Common.{◌≡◌, ◌∙◌, ap, sym, subst, take}
use Rattle.std.specs.Arc.{arc_value}
use Rattle.tb_base.specs.Records.{AllFit}
use Rattle.tb_model.specs.Releases.{ReleaseValue}
use Rattle.tb_release.specs.Chains.{release_after}
use Rattle.tb_release.specs.Revised.{release_at}
use Rattle.tb_release.proofs.RevisedChains.{after_all, revised_at}
use Rattle.tb_past.proofs.releases.release_at.Goals as goal

pub returns-clause-fit : goal.returns-clause-fit
returns-clause-fit g c =
    let base = arc_value c.args.base.now in
    let chain = c.args.batches.now in
    let made : arc_value c.in_ok-shared.shared ≡ release_after c.deref.result.now (take c.args.n chain) = c.in_ok-shared.ensures.ok ∙ c.in_ok-release.ensures.release in
    let is : arc_value c.in_ok-shared.shared ≡ release_at base chain c.args.n = made ∙ ap (λ (r : ReleaseValue). release_after r (take c.args.n chain)) c.deref.ensures in
    subst (λ (r : ReleaseValue). AllFit c.args.shape.now r.records) (sym is)
    (after_all c.args.shape.now base (take c.args.n chain) (revised_at c.args.shape.now base chain c.args.n c.requires.chain)).fit
