-- What a publication makes of a custodian.
use Rattle.std.proofs.Common.{◌≡◌, ℕ, ◌+◌, ◌<◌, List, [], ◌∷◌, length, sym, ap, ◌∙◌, subst, arith}
use Rattle.std.specs.Prelude.{All}
use Rattle.tb_base.specs.Records.{AllFit}
use Rattle.tb_core.proofs.ChainLemmas.{after-append}
use Rattle.tb_front.specs.declared.front.TheConstants.{LONGEST_CHAIN}
use Rattle.tb_model.specs.Releases.{ReleaseValue}
use Rattle.tb_release.specs.Batches.{BatchValue, Follows}
use Rattle.tb_release.specs.Chains.{after_batch}
use Rattle.tb_release.specs.Results.{ChangeFits}
use Rattle.tb_board.specs.Holders.{HolderValue, release_seen, with_batch, IsChainSeen}
use Rattle.tb_board.specs.Custodians.{CustodianValue, PublicationValue, CanPublish, IsWhole, after_publication}
use Rattle.tb_board.proofs.Chains.{number_seen}

-- the release after one batch more
pub seen_more : (seen : HolderValue) (batch : BatchValue) → release_seen (with_batch seen batch) ≡ after_batch (release_seen seen) batch
seen_more seen batch = after-append seen.start.base seen.list (batch ∷ [])

-- a custodian stays whole
pub whole_with : (c : CustodianValue) (p : PublicationValue) → IsWhole c → p.release ≡ after_batch c.release p.batch → IsWhole (after_publication p c)
whole_with c p w leads = record {
  same = ap (λ (h : HolderValue). with_batch h p.batch) w.same;
  current = leads ∙ ap (λ (r : ReleaseValue). after_batch r p.batch) w.current ∙ sym (seen_more c.writer p.batch);
}

-- there is room for a batch that follows the release
pub has_room : (seen : HolderValue) (release : ReleaseValue) (batch : BatchValue) → IsChainSeen seen → release ≡ release_seen seen → Follows release batch → length seen.list < LONGEST_CHAIN
has_room seen release batch chain is follows =
    let number : release.number ≡ length seen.list = ap (λ (r : ReleaseValue). r.number) is ∙ number_seen seen chain in
    let below = follows.can.releases in
    omega (arith, number, below)

-- its number is how many batches the pass has then seen
pub number_more : (c : CustodianValue) (p : PublicationValue) (shape : List ℕ) → IsWhole c → IsChainSeen c.writer → CanPublish shape c.release p → p.release.number ≡ length c.writer.list + 1
number_more c p shape w chain can =
    let number : c.release.number ≡ length c.writer.list = ap (λ (r : ReleaseValue). r.number) w.current ∙ number_seen c.writer chain in
    ap (λ (r : ReleaseValue). r.number) can.leads ∙ ap (λ n. n + 1) number

-- what `next` makes may be published
pub may_publish : (shape own : List ℕ) (old given now : ReleaseValue) (batch : BatchValue) (p : PublicationValue) → own ≡ shape → given ≡ old → p.release ≡ now → p.batch ≡ batch
    → Follows given batch → now ≡ after_batch given batch → AllFit own now.records → All (ChangeFits own) batch.changes → CanPublish shape old p
may_publish shape own old given now batch p own_is given_is release_is batch_is follows leads fit changes_fit =
    let made : PublicationValue = record { release = now; batch = batch } in
    let can : CanPublish own given made = record { follows = follows; leads = leads; fit = fit; changes_fit = changes_fit } in
    subst (λ (x : List ℕ × (ReleaseValue × PublicationValue)). CanPublish x.0 x.1.0 x.1.1)
    (λ i. (own_is i, (given_is i, record { release = sym release_is i; batch = sym batch_is i }))) can
