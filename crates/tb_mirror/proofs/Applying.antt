-- The chain of a board's custodian, and what a publication makes of it.
use Rattle.std.proofs.Common.{◌≡◌, ◌∙◌, ap, subst, ℕ, ◌+◌, ◌≤◌, List, [], ◌∷◌, ◌++◌, length, arith}
use Rattle.tb_board.specs.Custodians.{CustodianValue, IsWhole, after_publishing}
use Rattle.tb_board.specs.Holders.{HolderValue, IsChainSeen, release_seen}
use Rattle.tb_board.specs.Starts.{StartValue}
use Rattle.tb_follow.specs.Chains.{Applies}
use Rattle.tb_front.specs.Holders.{Name}
use Rattle.tb_model.specs.Releases.{ReleaseValue}
use Rattle.tb_release.specs.Batches.{BatchValue, CanFollow, batch_of, batch_refusal}
use Rattle.tb_release.specs.Chains.{IsChain, after_batch}
use Rattle.tb_release.specs.Results.{IsWhy}
use Rattle.tb_release.specs.declared.edits.Edit.{Edit}
use Rattle.tb_release.specs.declared.fault.EditFault.{EditFault}
use Rattle.tb_release.specs.declared.limits.TheConstants.{MOST_RELEASES}
use Rattle.tb_release.proofs.Chained.{can_follow_unless_refused}
use Rattle.tb_session.specs.Parties.{IsCustodianOf}
use Rattle.tb_mirror.specs.BoardChains.{chain_seen}

-- each batch of a chain leads to a release of which there may be one more
few_after : (release : ReleaseValue) (chain : List BatchValue) → IsChain release chain → release.number ≤ MOST_RELEASES → release.number + length chain ≤ MOST_RELEASES
few_after release [] is few = omega (arith, few)
few_after release (batch ∷ chain) is few =
    let one = is.0.can.releases in
    let next : release.number + 1 ≤ MOST_RELEASES = omega (arith, one) in
    let more : release.number + 1 + length chain ≤ MOST_RELEASES = few_after (after_batch release batch) chain is.1 next in
    omega (arith, more)

pub few_releases : (seen : HolderValue) → IsChainSeen seen → length seen.list ≤ MOST_RELEASES
few_releases seen sound =
    let first = sound.first in
    let begin : seen.start.base.number ≤ MOST_RELEASES = omega (arith, first) in
    let few = few_after seen.start.base seen.list sound.is_chain begin in
    omega (arith, few, first)

-- what was published is applied
pub applies : (old new : CustodianValue) (edits : List Edit) → IsWhole old → CanFollow old.release edits → new ≡ after_publishing edits old → Applies (chain_seen old.writer) edits (chain_seen new.writer)
applies old new edits whole can is = record {
  possible = (can_follow_unless_refused (release_seen old.writer) edits can.few).1 (subst (λ (r : ReleaseValue). CanFollow r edits) whole.current can);
  chain = ap (λ (c : CustodianValue). chain_seen c.writer) is ∙ ap (λ (r : ReleaseValue). record (chain_seen old.writer) { batches = old.writer.list ++ batch_of r edits ∷ [] }) whole.current;
}

-- a refusal is by the release to which the chain leads
pub why_seen : (old : CustodianValue) (edits : List Edit) (fault : EditFault) → IsWhole old → IsWhy (batch_refusal old.release edits) fault → IsWhy (batch_refusal (release_seen old.writer) edits) fault
why_seen old edits fault whole why = subst (λ (r : ReleaseValue). IsWhy (batch_refusal r edits) fault) whole.current why

-- who published is the custodian still
pub still_custodian : (name : Name) (shape : List ℕ) (old new : CustodianValue) (held : List Edit) → new.writer.name ≡ old.writer.name → new.writer.start ≡ old.writer.start → IsWhole new → IsCustodianOf name shape old held → IsCustodianOf name shape new held
still_custodian name shape old new held named start whole is = record {
  front = named ∙ is.front;
  fits = ap (λ (s : StartValue). s.shape) start ∙ is.fits;
  whole = whole;
  edits = is.edits;
}
