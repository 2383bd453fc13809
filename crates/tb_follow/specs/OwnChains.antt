-- A chain that is kept as release 0 and the release to which it leads.
use Rattle.std.specs.Prelude.{◌≡◌, ◌≤◌, Option}
use Rattle.std.specs.Option.{unwrap_or}
use Rattle.tb_base.specs.Records.{AllFit}
use Rattle.tb_model.specs.Releases.{ReleaseValue}
use Rattle.tb_release.specs.declared.limits.TheConstants.{MOST_RELEASES}
use Rattle.tb_follow.specs.Chains.{ChainValue, number_at, release_at}

-- these two are kept of a chain, the second where it leads further than release 0: that has the
-- number 0, all records fit the shape, and the releases are few enough
pub record IsKept (chain : ChainValue) (ahead : Option ReleaseValue) : Type 0 where
  pub first : chain.base.number ≡ 0
  pub leads : unwrap_or ahead chain.base ≡ release_at chain
  pub number : (release_at chain).number ≡ number_at chain
  pub few : number_at chain ≤ MOST_RELEASES
  pub base_fit : AllFit chain.shape chain.base.records
  pub fit : AllFit chain.shape (release_at chain).records
