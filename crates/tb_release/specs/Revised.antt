-- Release n of a chain.
use Rattle.std.specs.Prelude.{◌≡◌, ℕ, All, List, take}
use Rattle.std.specs.List.{AllByRecursion}
use Rattle.tb_base.specs.Records.{AllFit}
use Rattle.tb_model.specs.Releases.{ReleaseValue}
use Rattle.tb_release.specs.Batches.{BatchValue}
use Rattle.tb_release.specs.Chains.{IsChain, release_after}
use Rattle.tb_release.specs.Releases.{IsSound}
use Rattle.tb_release.specs.Results.{ChangeFits}

-- release n of a chain: release 0 after the first n batches
abbrev pub release_at : ReleaseValue → List BatchValue → ℕ → ReleaseValue
release_at base chain n = release_after base (take n chain)

-- release 0 and a chain on it, whose records fit the shape
pub record IsRevised (shape : List ℕ) (base : ReleaseValue) (chain : List BatchValue)
    : Type 0 where
  pub sound : IsSound base
  pub first : base.number ≡ 0
  pub fit : AllFit shape base.records
  pub is_chain : IsChain base chain
  pub changes_fit : AllByRecursion (λ batch. All (ChangeFits shape) batch.changes) chain
