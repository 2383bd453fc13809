-- The rules of release n of a chain.
use Rattle.std.proofs.Common.{◌≡◌, ℕ, ◌+◌, List, [], ◌∷◌, Some, take, ap, ◌∙◌}
use Rattle.std.specs.Prelude.{fold, slice_get}
use Rattle.tb_model.specs.Releases.{ReleaseValue}
use Rattle.tb_release.specs.Batches.{BatchValue}
use Rattle.tb_release.specs.Chains.{release_after}
use Rattle.tb_release.specs.Edits.{edited_rules}
use Rattle.tb_release.specs.Revised.{release_at}
use Rattle.tb_release.proofs.RevisedChains.{after-append, take_here}

-- those of release n + 1 are what the next batch's edits of the rules leave of those of release n
pub rules_next : (base : ReleaseValue) (chain : List BatchValue) (i : ℕ) (batch : BatchValue) → slice_get chain i ≡ Some batch
    → (release_at base chain (i + 1)).rules ≡ fold edited_rules (release_at base chain i).rules batch.rule_edits
rules_next base chain i batch at =
    ap (λ (r : ReleaseValue). r.rules) (ap (release_after base) (take_here chain i batch at) ∙ after-append base (take i chain) (batch ∷ []))
