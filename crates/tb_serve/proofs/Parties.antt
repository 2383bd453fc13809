-- The sessions of a party, as they lead its state on.
use Rattle.std.proofs.Common.{◌≡◌, ◌∙◌, ap, refl, subst, ℕ, List}
use Rattle.tb_board.specs.Starts.{StartValue}
use Rattle.tb_lines.specs.Outputs.{Lead, ReplyValue}
use Rattle.tb_model.specs.Releases.{ReleaseValue}
use Rattle.tb_model.specs.Setups.{SetupValue}
use Rattle.tb_ahead.specs.Publishing.{let_go}
use Rattle.tb_session.specs.Parties.{role_of, seen_by, state_of}
use Rattle.tb_session.specs.PartySessions.{IsPartyStep, with_none_held}
use Rattle.tb_session.specs.Transcripts.{IsLegal}
use Rattle.tb_session.specs.declared.party.Party.{Party}
use Rattle.tb_session.specs.declared.party.Party.TheVariants as party
use Rattle.tb_session.specs.declared.party.Role.{Role}
use Rattle.tb_session.proofs.LegalParties.{lines_legal}
use Rattle.tb_worker.proofs.Visiting.{visits_as}
use Rattle.tb_worker.specs.Visits.{AreVisits, Visit}

-- a party of this role, over this release 0
pub record IsOne (who : Role) (base : ReleaseValue) (one : Party) : Type 0 where
  pub role : role_of one ≡ who
  pub first : (seen_by one).start.base ≡ base

-- it lets go of the edits that it holds
begins : (who : Role) (base : ReleaseValue) (p : Party) → IsOne who base p → IsOne who base (with_none_held p)
begins who base (party.Analyst pass) one = one
begins who base (party.Custodian custodian held) one = record { role = one.role; first = one.first }

begins_so : (p : Party) → state_of (with_none_held p) ≡ let_go (state_of p)
begins_so (party.Analyst pass) = refl
begins_so (party.Custodian custodian held) = refl

module _ (setup : SetupValue) (who : Role) (base : ReleaseValue) where
  says : (p : Party) (lines : List (List ℕ)) (replies : List ReplyValue) (q : Party) → IsOne who base p → Lead (IsPartyStep setup) p lines replies q
      → IsOne who base q × IsLegal who setup base (state_of p) lines replies (state_of q)
  says p lines replies q one h =
      let (goes, legal) = lines_legal setup p lines replies q h in (
        record { role = goes.who ∙ one.role; first = ap (λ (s : StartValue). s.base) goes.start ∙ one.first },
        subst (λ (x : Role × ReleaseValue). IsLegal x.0 setup x.1 (state_of p) lines replies (state_of q)) (λ i. (one.role i, one.first i)) legal,
      )

  -- its visits are those of a role, and it stays such a party
  pub party_visits : (p q : Party) (visits : List Visit) → IsOne who base p → AreVisits (Lead (IsPartyStep setup)) with_none_held p visits q
      → IsOne who base q × AreVisits (IsLegal who setup base) let_go (state_of p) visits (state_of q)
  party_visits p q visits one h =
      visits_as (Lead (IsPartyStep setup)) (IsLegal who setup base) with_none_held let_go state_of (IsOne who base) (begins who base) begins_so says p q visits one h
