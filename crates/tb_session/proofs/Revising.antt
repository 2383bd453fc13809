-- What `publish` leads to.
use Rattle.std.proofs.Common.{◌≡◌, ◌∙◌, refl, ap, subst, ℕ, ◌+◌, List, [], ◌∷◌, ◌++◌, Some, inl, inr}
use Rattle.tb_board.specs.Custodians.{CustodianValue, IsWhole, after_publishing}
use Rattle.tb_board.specs.Holders.{release_seen}
use Rattle.tb_model.specs.Releases.{ReleaseValue}
use Rattle.tb_release.specs.Batches.{CanFollow, batch_of, batch_refusal}
use Rattle.tb_release.specs.FaultNames.{fault_name}
use Rattle.tb_release.specs.declared.edits.Edit.{Edit}
use Rattle.tb_release.specs.declared.fault.EditFaultKind.{EditFaultKind}
use Rattle.tb_session.specs.Parties.{PublishLeads, state_at}
use Rattle.tb_ahead.specs.Publishing.{published_line, batch_refusal_line}
use Rattle.tb_tables.specs.ReplyLines.{memory_line}

module _ (old new : CustodianValue) (held after : List Edit) where
  -- the batch was published
  pub published : (number : ℕ) → IsWhole old → CanFollow old.release held → new ≡ after_publishing held old → number ≡ new.release.number → after ≡ [] → PublishLeads old held (published_line number) new after
  published number whole can is counts none =
      let chain : new.writer.list ≡ old.writer.list ++ batch_of (release_seen old.writer) held ∷ [] =
      ap (λ (c : CustodianValue). c.writer.list) is ∙ ap (λ (r : ReleaseValue). old.writer.list ++ batch_of r held ∷ []) whole.current in
      let next : state_at new.writer after ≡ record { chain = old.writer.list ++ batch_of (release_seen old.writer) held ∷ []; held = [] } = λ i. record { chain = chain i; held = none i } in record {
        front = ap (λ (c : CustodianValue). c.writer.name) is;
        start = ap (λ (c : CustodianValue). c.writer.start) is;
        is_reply = inl (
          subst (λ (r : ReleaseValue). CanFollow r held) whole.current can,
          ap published_line (counts ∙ ap (λ (c : CustodianValue). c.release.number) is ∙ ap (λ (r : ReleaseValue). r.number + 1) whole.current),
          next,
        );
      }

  -- or refused
  pub batch_refused : (kind : EditFaultKind) (edit : ℕ) → IsWhole old → batch_refusal old.release held ≡ Some (kind, edit) → new ≡ old → after ≡ [] → PublishLeads old held (batch_refusal_line edit (fault_name kind)) new after
  batch_refused kind edit whole why is none =
      let chain : new.writer.list ≡ old.writer.list = ap (λ (c : CustodianValue). c.writer.list) is in
      let next : state_at new.writer after ≡ record { chain = old.writer.list; held = [] } = λ i. record { chain = chain i; held = none i } in record {
        front = ap (λ (c : CustodianValue). c.writer.name) is;
        start = ap (λ (c : CustodianValue). c.writer.start) is;
        is_reply = inr (inl (kind, edit, subst (λ (r : ReleaseValue). batch_refusal r held ≡ Some (kind, edit)) whole.current why, refl, next));
      }

  -- or there was no memory
  pub not_published : new ≡ old → after ≡ held → PublishLeads old held memory_line new after
  not_published is same =
      let chain : new.writer.list ≡ old.writer.list = ap (λ (c : CustodianValue). c.writer.list) is in
      let next : state_at new.writer after ≡ state_at old.writer held = λ i. record { chain = chain i; held = same i } in record {
        front = ap (λ (c : CustodianValue). c.writer.name) is;
        start = ap (λ (c : CustodianValue). c.writer.start) is;
        is_reply = inr (inr (refl, next));
      }
