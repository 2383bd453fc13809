use Rattle.std.proofs.Common.{List, sym, subst}
use Rattle.std.specs.Prelude.{All, ℕ}
use Rattle.tb_release.specs.Batches.{BatchValue}
use Rattle.tb_release.specs.Results.{ChangeFits}
use Rattle.tb_cell_tests.proofs.past_releases.adopt.Goals as goal

-- the batch's changes fit the desk's shape
pub adopt-requires-clause-fit : goal.adopt-requires-clause-fit
adopt-requires-clause-fit c =
    let fit = subst (λ (s : List ℕ). All (ChangeFits s) c.in_ok-release.batch.changes) c.shape-2.ensures c.in_ok-release.ensures.changes_fit in
    subst (λ (batch : BatchValue). All (ChangeFits c.take.new.self.shape) batch.changes) (sym c.in_ok-batch.ensures.ok) fit
