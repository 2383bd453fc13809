-- Batches of changes, and which of them follow a release.
use Rattle.std.specs.Prelude.{◌≡◌, ◌<◌, ◌≤◌, ℕ, ◌+◌, ◌==◌, ◌||◌, nat_le, nat_lt}
use Rattle.std.specs.Prelude.{if◌then◌else◌, List, [], ◌∷◌, filter, length, Option, Some, refl}
use Rattle.std.specs.Coded.{Coded, code_by, coded×, coded_ℕ, coded_list, coded_option}
use Rattle.tb_base.specs.declared.records.Record.{Record}
use Rattle.tb_base.specs.Records.{record_code}
use Rattle.tb_model.specs.Releases.{ReleaseValue}
use Rattle.tb_pages.specs.Pages.{record_of}
use Rattle.tb_release.specs.EditCodes.{edit_code}
use Rattle.tb_release.specs.declared.edits.Edit.{Edit}
use Rattle.tb_release.specs.declared.edits.Change.{Change}
use Rattle.tb_release.specs.declared.fault.EditFaultKind.{EditFaultKind}
use Rattle.tb_release.specs.declared.fault.EditFaultKind.TheVariants as kind
use Rattle.tb_release.specs.declared.limits.TheConstants.{MOST_EDITS, MOST_RELEASES, MOST_CHANGES}
use Rattle.tb_release.specs.Edits.{person_of, is_of_rules, edited, edited_all}
use Rattle.tb_release.specs.Possible.{ArePossible, first_refusal}

-- the change of an edit of a record: the person, with the record before it and the record after it
abbrev pub change_of : ReleaseValue → Edit → Change
change_of release edit =
    record {
      person = person_of edit;
      before = record_of release.records (person_of edit);
      after = record_of (edited release edit).records (person_of edit);
    }

-- the changes of the edits of records among some edits, each on the release that those before it
-- left
abbrev pub changes_of : ReleaseValue → List Edit → List Change
changes_of release [] = []
changes_of release (edit ∷ edits) =
    if is_of_rules edit then changes_of (edited release edit) edits
    else change_of release edit ∷ changes_of (edited release edit) edits

-- the edits of the rules among some edits
abbrev pub rule_edits_of : List Edit → List Edit
rule_edits_of edits = filter is_of_rules edits

-- a batch: the changes of one list of edits, and those of its edits that are of the rules, each
-- list in order
pub record BatchValue : Type 0 where
  pub changes : List Change
  pub rule_edits : List Edit

-- the batch of some edits on a release
abbrev pub batch_of : ReleaseValue → List Edit → BatchValue
batch_of release edits =
    record { changes = changes_of release edits; rule_edits = rule_edits_of edits }

-- how many edits a batch is of
abbrev pub batch_length : BatchValue → ℕ
batch_length batch = length batch.changes + length batch.rule_edits

-- how a change and a batch are coded, for types whose values hold them
abbrev pub change_code : Coded Change
change_code =
    code_by (ℕ × (Option Record × Option Record))
    (coded× coded_ℕ (coded× (coded_option record_code) (coded_option record_code)))
    (λ c. (c.person, (c.before, c.after)))
    (λ p. record { person = p.0; before = p.1.0; after = p.1.1 })
    (λ _. refl)

abbrev pub batch_code : Coded BatchValue
batch_code =
    code_by (List Change × List Edit) (coded× (coded_list change_code) (coded_list edit_code))
    (λ b. (b.changes, b.rule_edits))
    (λ p. record { changes = p.0; rule_edits = p.1 }) (λ _. refl)

-- edits can follow a release: there are some and at most the most, each is possible, and neither
-- the releases nor the edits so far become too many
pub record CanFollow (release : ReleaseValue) (edits : List Edit) : Type 0 where
  pub some : 0 < length edits
  pub few : length edits ≤ MOST_EDITS
  pub releases : release.number < MOST_RELEASES
  pub so_far : release.edits + length edits ≤ MOST_CHANGES
  pub possible : ArePossible release edits

-- a batch follows a release: it is that of edits that can follow
pub record Follows (release : ReleaseValue) (batch : BatchValue) : Type 0 where
  pub edits : List Edit
  pub can : CanFollow release edits
  pub theirs : batch ≡ batch_of release edits

-- the next release after some edits
abbrev pub next_release : ReleaseValue → List Edit → ReleaseValue
next_release release edits =
    record (edited_all release edits) {
      number = release.number + 1;
      changes = release.changes + length (changes_of release edits);
      edits = release.edits + length edits;
    }

-- why edits can't follow a release, if they can't, with the number of the edit that isn't possible,
-- or 0 where it is for all of them together
abbrev pub batch_refusal : ReleaseValue → List Edit → Option (EditFaultKind × ℕ)
batch_refusal release edits =
    if length edits == 0 then Some (kind.Nothing, 0)
    else if nat_le MOST_RELEASES release.number
    || nat_lt MOST_CHANGES (release.edits + length edits) then Some (kind.TooMany, 0)
    else first_refusal 1 release edits
