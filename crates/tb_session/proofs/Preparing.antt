-- A publication that was prepared of the held edits, once it is asked for.
use Rattle.std.proofs.Common.{◌≡◌, ◌∙◌, ap, refl, ℕ, List}
use Rattle.std.specs.Prelude.{Option}
use Rattle.tb_board.specs.Custodians.{CustodianValue, PublicationValue, after_publication, after_publishing}
use Rattle.tb_io.specs.Taken.{IsWritten}
use Rattle.tb_io.specs.declared.answers.Wrote.{Wrote}
use Rattle.tb_model.specs.Setups.{SetupValue}
use Rattle.tb_release.specs.declared.edits.Edit.{Edit}
use Rattle.tb_session.specs.Asks.{asks_of}
use Rattle.tb_session.specs.Parties.{IsAnswered, PublishLeads}
use Rattle.tb_session.specs.Prepared.{IsPreparedOf}
use Rattle.tb_session.specs.declared.asks.Asks.TheVariants as asks
use Rattle.tb_session.specs.declared.party.Party.TheVariants as party
use Rattle.tb_session.specs.declared.party.Role.TheVariants as role
use Rattle.tb_session.proofs.Leading.{leads_to_publish}

-- published, it leads to where the edits do
pub as_publishing : (old new : CustodianValue) (held : List Edit) (publication : PublicationValue) → IsPreparedOf old held publication → new ≡ after_publication publication old → new ≡ after_publishing held old
as_publishing old new held publication prepared is = is ∙ ap (λ (p : PublicationValue). after_publication p old) prepared.made

-- the line that asks for it is answered so, whatever the line and the setup
pub answered_so : (old new : CustodianValue) (held after : List Edit) (text : List ℕ) (result : Wrote) (f f' : ℕ) (t t' : Option (List ℕ)) → PublishLeads old held text new after → IsWritten result f f' t t' text
    → (setup : SetupValue) (line : List ℕ) (steps : ℕ) → asks_of role.Custodian line ≡ asks.Publish → IsAnswered setup (party.Custodian old held) line (party.Custodian new after) result f f' t t' steps steps
answered_so old new held after text result f f' t t' leads written setup line steps is =
    let own = leads_to_publish setup old new held after line text steps steps is leads refl in record {
      goes_on = record { who = refl; front = leads.front; start = leads.start };
      seen = tt;
      reply = record { text = text; price = own.price };
      step = own.step;
      written = written;
      cost = own.cost;
    }
