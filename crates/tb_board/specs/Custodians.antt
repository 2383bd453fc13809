-- The custodian of a board, and what a board is made of.
use Rattle.std.specs.Prelude.{◌≡◌, ℕ, All, List, [], refl}
use Rattle.std.specs.Coded.{Coded, code_by, coded×}
use Rattle.tb_base.specs.Records.{AllFit}
use Rattle.tb_front.specs.Holders.{Name, holder}
use Rattle.tb_model.specs.Releases.{ReleaseValue, release_code}
use Rattle.tb_release.specs.Batches.{BatchValue, Follows, batch_code, batch_of, next_release}
use Rattle.tb_release.specs.Chains.{after_batch}
use Rattle.tb_release.specs.Results.{ChangeFits}
use Rattle.tb_release.specs.declared.edits.Edit.{Edit}
use Rattle.tb_board.specs.Starts.{StartValue}
use Rattle.tb_board.specs.Holders.{HolderValue, release_seen, holder_value_code, with_batch}

-- what its writer and its pass have seen, and its current release
pub record CustodianValue : Type 0 where
  pub writer : HolderValue
  pub pass : HolderValue
  pub release : ReleaseValue

-- how it is coded, for a type whose value is one
abbrev pub custodian_code : Coded CustodianValue
custodian_code =
    code_by (HolderValue × (HolderValue × ReleaseValue))
    (coded× holder_value_code (coded× holder_value_code release_code))
    (λ c. (c.writer, (c.pass, c.release)))
    (λ p. record { writer = p.0; pass = p.1.0; release = p.1.1 })
    (λ _. refl)

-- a custodian is whole: its pass has seen what its writer wrote, and its release is where it leads
pub record IsWhole (custodian : CustodianValue) : Type 0 where
  pub same : custodian.pass ≡ custodian.writer
  pub current : custodian.release ≡ release_seen custodian.writer

-- what a publication adds: a release, and the batch that leads to it
pub record PublicationValue : Type 0 where
  pub release : ReleaseValue
  pub batch : BatchValue

-- how it is coded, for a type whose value is one
abbrev pub publication_code : Coded PublicationValue
publication_code =
    code_by (ReleaseValue × BatchValue) (coded× release_code batch_code)
    (λ p. (p.release, p.batch))
    (λ p. record { release = p.0; batch = p.1 })
    (λ _. refl)

-- what the publication of some edits adds to a release
abbrev pub next_publication : ReleaseValue → List Edit → PublicationValue
next_publication release edits =
    record {
      release = next_release release edits;
      batch = batch_of release edits;
    }

-- a publication follows a release, and all its records fit a shape
pub record CanPublish (shape : List ℕ) (release : ReleaseValue)
    (publication : PublicationValue) : Type 0 where
  pub follows : Follows release publication.batch
  pub leads : publication.release ≡ after_batch release publication.batch
  pub fit : AllFit shape publication.release.records
  pub changes_fit : All (ChangeFits shape) publication.batch.changes

-- a custodian after a publication, which its pass has seen
abbrev pub after_publication : PublicationValue → CustodianValue → CustodianValue
after_publication publication custodian =
    record {
      writer = with_batch custodian.writer publication.batch;
      pass = with_batch custodian.pass publication.batch;
      release = publication.release;
    }

-- a custodian after it published some edits
abbrev pub after_publishing : List Edit → CustodianValue → CustodianValue
after_publishing edits custodian =
    after_publication (next_publication custodian.release edits) custodian

-- what a board is made of: the name of its front, and the start of its chain
pub record OpeningValue : Type 0 where
  pub name : Name
  pub start : StartValue

-- how it is coded, for a type whose value is one
abbrev pub opening_code : Coded OpeningValue
opening_code =
    code_by HolderValue holder_value_code
    (λ o. holder o.name o.start [])
    (λ h. record { name = h.name; start = h.start })
    (λ _. refl)

-- the custodian of a board that was just made: at release 0, with empty lists
abbrev pub first_custodian : OpeningValue → CustodianValue
first_custodian opening =
    record {
      writer = holder opening.name opening.start [];
      pass = holder opening.name opening.start [];
      release = opening.start.base;
    }
