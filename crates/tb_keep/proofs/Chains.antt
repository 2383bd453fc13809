-- A custodian's chain is that of the batches for which its file stands.
use Rattle.std.proofs.Common.{◌≡◌, ◌∙◌, sym, ap, refl, subst, ℕ, Bool, true, false, List, [], ◌∷◌, ◌++◌, inl, inr}
use Rattle.tb_ahead.specs.Keeping.{IsKeptPublish, IsKeptStep, KeptState}
use Rattle.tb_ahead.specs.Publishing.{StateValue}
use Rattle.tb_lines.specs.Outputs.{Lead, ReplyValue}
use Rattle.tb_model.specs.Releases.{ReleaseValue}
use Rattle.tb_model.specs.Setups.{SetupValue}
use Rattle.tb_release.specs.Batches.{BatchValue, batch_of}
use Rattle.tb_release.specs.Chains.{after_batch, release_after}
use Rattle.tb_release.specs.declared.edits.Edit.{Edit}
use Rattle.tb_script.specs.Scripts.{role_of_lane}
use Rattle.tb_session.specs.Asks.{asks_of}
use Rattle.tb_session.specs.Replies.{IsReplyTo}
use Rattle.tb_session.specs.declared.asks.Asks.{Asks}
use Rattle.tb_session.specs.declared.asks.Asks.TheVariants as asks
use Rattle.tb_session.specs.declared.party.Role.{Role}
use Rattle.tb_session.specs.declared.party.Role.TheVariants as role
use Rattle.tb_keep.specs.Chains.{IsOwnKeptStep, IsTheirs, StaysTheirs, batches_of}
use Rattle.tb_keep.specs.KeptRuns.{IsKeptReply, IsKeptStepOf}
use Rattle.tb_keep.specs.Publishers.{IsOwnStep, asks_to_publish, is_publish}

-- one batch more
pub batches_of-more : (release : ReleaseValue) (bs : List (List Edit)) (edits : List Edit) → batches_of release (bs ++ edits ∷ []) ≡ batches_of release bs ++ batch_of (release_after release (batches_of release bs)) edits ∷ []
batches_of-more release [] edits = refl
batches_of-more release (b ∷ bs) edits = ap (λ (l : List BatchValue). batch_of release b ∷ l) (batches_of-more (after_batch release (batch_of release b)) bs edits)

abbrev chain_of : StateValue → List BatchValue
chain_of s = s.chain

-- a reply to `publish`
by-publish : (base : ReleaseValue) (old next : KeptState) (text : List ℕ) → IsKeptPublish (release_after base old.state.chain) old text next → IsTheirs base old → IsTheirs base next
by-publish base old next text (counts, since, inl ((can, is, goes), live, still, batches)) theirs =
    ap chain_of goes ∙ ap (λ (c : List BatchValue). c ++ batch_of (release_after base c) old.state.held ∷ []) theirs ∙ sym (batches_of-more base old.batches old.state.held) ∙ sym (ap (batches_of base) batches)
by-publish base old next text (counts, since, inr (inl ((kind, edit, why, is, goes), (batches, further)))) theirs = ap chain_of goes ∙ theirs ∙ sym (ap (batches_of base) batches)
by-publish base old next text (counts, since, inr (inr (inl (can, is, same, inl (closed, (batches, further)))))) theirs = ap chain_of same ∙ theirs ∙ sym (ap (batches_of base) batches)
by-publish base old next text (counts, since, inr (inr (inl (can, is, same, inr (risen, (none, batches, further)))))) theirs = ap chain_of same ∙ theirs ∙ sym (ap (batches_of base) batches)
by-publish base old next text (counts, since, inr (inr (inr (is, same, inl (batches, further))))) theirs = ap chain_of same ∙ theirs ∙ sym (ap (batches_of base) batches)
by-publish base old next text (counts, since, inr (inr (inr (is, same, inr (can, (none, batches, further)))))) theirs = ap chain_of same ∙ theirs ∙ sym (ap (batches_of base) batches)

-- a reply to another line
same-chain : (what : Asks) (setup : SetupValue) (base : ReleaseValue) (state : StateValue) (line : List ℕ) (reply : ReplyValue) (next : StateValue) → is_publish what ≡ false
    → IsReplyTo what setup base state line reply next → next.chain ≡ state.chain
same-chain asks.Nothing setup base state line reply next h is = ap chain_of is.1
same-chain asks.Description setup base state line reply next h is = ap chain_of is.1
same-chain asks.Table setup base state line reply next h is = ap chain_of is.1
same-chain (asks.At n) setup base state line reply next h is = ap chain_of is.1
same-chain asks.Edit setup base state line reply next h is = is.1
same-chain asks.Publish setup base state line reply next h is = absurd (cc)
same-chain asks.Stats setup base state line reply next h is = ap chain_of is.2
same-chain asks.Clear setup base state line reply next h is = ap chain_of is.1
same-chain (asks.Cache capacity) setup base state line reply next h is = ap chain_of is.2

own-chain : (setup : SetupValue) (base : ReleaseValue) (old : StateValue) (line : List ℕ) (reply : ReplyValue) (new : StateValue) → asks_to_publish line ≡ false → IsOwnStep setup base old line reply new → new.chain ≡ old.chain
own-chain setup base old line reply new h (at, same, is) = same-chain (asks_of role.Custodian line) setup base at line reply new h is ∙ ap chain_of same

by-line : (asks : Bool) (setup : SetupValue) (base : ReleaseValue) (old next : KeptState) (line : List ℕ) (reply : ReplyValue) → asks_to_publish line ≡ asks → IsKeptStep asks (IsOwnStep setup base) base old line reply next → IsTheirs base old → IsTheirs base next
by-line true setup base old next line reply h step theirs = by-publish base old next reply.text step.1 theirs
by-line false setup base old next line reply h step theirs =
    own-chain setup base old.state line reply next.state h step.0 ∙ theirs ∙ sym (ap (λ (at : KeptState). batches_of base at.batches) step.1)

-- what each line keeps, all lines keep
module _ {S L : Type 0} (Step : S → L → ReplyValue → S → Type 0) (P : S → Type 0) (each : (old next : S) (line : L) (reply : ReplyValue) → Step old line reply next → P old → P next) where
  pub lines-keep : (first last : S) (lines : List L) (replies : List ReplyValue) → Lead Step first lines replies last → P first → P last
  lines-keep first last [] [] h so = subst P (sym h) so
  lines-keep first last [] (reply ∷ replies) h so = absurd h
  lines-keep first last (line ∷ lines) [] h so = absurd h
  lines-keep first last (line ∷ lines) (reply ∷ replies) (next, step, more) so = lines-keep next last lines replies more (each first next line reply step so)

own-line : (setup : SetupValue) (base : ReleaseValue) (old next : KeptState) (line : List ℕ) (reply : ReplyValue) → IsOwnKeptStep setup base old line reply next → IsTheirs base old → IsTheirs base next
own-line setup base old next line reply step theirs = by-line (asks_to_publish line) setup base old next line reply refl step theirs

-- an analyst's line changes nothing
pub any-line : (who : Role) (setup : SetupValue) (base : ReleaseValue) (old next : KeptState) (line : List ℕ) (reply : ReplyValue) → IsKeptStepOf who setup base old line reply next → IsTheirs base old → IsTheirs base next
any-line role.Custodian setup base old next line reply step theirs = own-line setup base old next line reply step theirs
any-line role.Analyst setup base old next line reply (same, is) theirs = subst (IsTheirs base) (sym same) theirs

pub stays_theirs : StaysTheirs IsOwnKeptStep
stays_theirs setup base = lines-keep (IsOwnKeptStep setup base) (IsTheirs base) (own-line setup base)

pub stays_theirs_in_scripts : StaysTheirs IsKeptReply
stays_theirs_in_scripts setup base = lines-keep (IsKeptReply setup base) (IsTheirs base) (λ old next line reply. any-line (role_of_lane line.lane) setup base old next line.line reply)
