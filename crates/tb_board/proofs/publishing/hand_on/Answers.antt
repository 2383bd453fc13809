use Rattle.std.proofs.Common.{◌≡◌, sym, ap, ◌∙◌, subst}
use Rattle.std.specs.Prelude.{All}
use Rattle.tb_release.specs.Batches.{Follows}
use Rattle.tb_release.specs.Results.{ChangeFits}
use Rattle.tb_board.specs.Custodians.{CustodianValue}
use Rattle.tb_board.specs.Holders.{HolderValue, release_seen, with_batch, IsChainSeen}
use Rattle.tb_board.proofs.Chains.{chain_more}
use Rattle.tb_board.proofs.publishing.hand_on.Goals as goal

-- the writer's list is a chain with the batch that it added too
pub invariant_of-custodian : goal.invariant_of-custodian
invariant_of-custodian c =
    let writer = c.custodian.inside.writer in
    let batch = c.args.step.now in
    let own : writer ≡ c.args.keeper.now = ap (λ (o : CustodianValue). o.writer) c.custodian.view_is ∙ c.requires.met in
    let new : c.draft.new.self ≡ with_batch writer batch = c.draft.ensures.same ∙ c.append.ensures in
    let follows = subst (λ (h : HolderValue). Follows (release_seen h) batch) (sym own) c.requires.follows in
    let fit = subst (λ (h : HolderValue). All (ChangeFits h.start.shape) batch.changes) (sym own) c.requires.fit in (
      c.custodian.invariant.0 ∙ ap (λ (h : HolderValue). h.start.shape) (sym new),
      c.custodian.invariant.1,
      subst IsChainSeen (sym new) (chain_more writer batch c.custodian.invariant.2 follows fit),
    )
