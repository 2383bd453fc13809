-- A publication that was prepared of the edits that a custodian holds.
use Rattle.std.specs.Prelude.{◌≡◌, List}
use Rattle.tb_board.specs.Custodians.{CanPublish, CustodianValue, PublicationValue}
use Rattle.tb_board.specs.Custodians.{next_publication}
use Rattle.tb_release.specs.Batches.{CanFollow}
use Rattle.tb_release.specs.declared.edits.Edit.{Edit}
use Rattle.tb_session.specs.declared.party.Party.{Party}
use Rattle.tb_session.specs.declared.party.Party.TheVariants as party

-- a publication is that of these edits on a custodian's release, which they can follow
pub record IsPreparedOf (custodian : CustodianValue) (held : List Edit)
    (publication : PublicationValue) : Type 0 where
  pub can : CanFollow custodian.release held
  pub made : publication ≡ next_publication custodian.release held
  pub fits : CanPublish custodian.writer.start.shape custodian.release publication

-- it is that of the edits that this party holds, which is the custodian
abbrev pub IsPreparedBy : Party → PublicationValue → Type 0
IsPreparedBy (party.Analyst pass) publication = ⊥
IsPreparedBy (party.Custodian custodian held) publication =
    IsPreparedOf custodian held publication
