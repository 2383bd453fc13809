-- Chains of batches, and the release to which one leads.
use Rattle.std.specs.Prelude.{ℕ, ◌+◌, not, if◌then◌else◌, List, [], ◌∷◌, ◌++◌}
use Rattle.std.specs.Prelude.{map, filter, fold, length, sum_by, Option, Some, None}
use Rattle.std.specs.FinMap as finmap
use Rattle.tb_base.specs.declared.records.Record.{Record}
use Rattle.tb_model.specs.Releases.{KeyBook, ReleaseValue}
use Rattle.tb_pages.specs.Pages.{changed_pages, is_of}
use Rattle.tb_release.specs.declared.edits.Change.{Change}
use Rattle.tb_release.specs.Edits.{edited_rules}
use Rattle.tb_release.specs.Batches.{BatchValue, Follows, batch_length}

-- the records with a person's record before a change replaced by the one after it
abbrev pub changed_records : List Record → ℕ → Option Record → Option Record → List Record
changed_records records person None None = records
changed_records records person None (Some new) = records ++ new ∷ []
changed_records records person (Some old) None = filter (λ r. not (is_of person r)) records
changed_records records person (Some old) (Some new) =
    map (λ r. if is_of person r then new else r) records

-- the key book after a change: a person who had no record before it stands in it from then on
abbrev pub changed_book : KeyBook → ℕ → Option Record → Option Record → KeyBook
changed_book book person None (Some new) = finmap.insert book person new.key
changed_book book person None None = book
changed_book book person (Some old) after = book

-- the release after a change; the page that it touches has the number of the next release as its
-- stamp
abbrev pub changed : ReleaseValue → Change → ReleaseValue
changed release change =
    record release {
      records = changed_records release.records change.person change.before change.after;
      pages =
          changed_pages (release.number + 1) release.pages change.person change.before
          change.after;
      key_book = changed_book release.key_book change.person change.before change.after;
    }

-- the release after a batch: its changes are made in the records, and its edits of the rules in
-- the rules
abbrev pub after_batch : ReleaseValue → BatchValue → ReleaseValue
after_batch release batch =
    record (fold changed release batch.changes) {
      number = release.number + 1;
      changes = release.changes + length batch.changes;
      edits = release.edits + batch_length batch;
      rules = fold edited_rules release.rules batch.rule_edits;
    }

-- the release after the batches of a chain
abbrev pub release_after : ReleaseValue → List BatchValue → ReleaseValue
release_after release chain = fold after_batch release chain

-- how many changes of records a chain has
abbrev pub change_count : List BatchValue → ℕ
change_count chain = sum_by (λ batch. length batch.changes) chain

-- how many edits a chain is of, of records and of rules
abbrev pub edit_count : List BatchValue → ℕ
edit_count chain = sum_by batch_length chain

-- each batch of a chain follows the release after those before it
abbrev pub IsChain : ReleaseValue → List BatchValue → Type 0
IsChain release [] = Unit {0}
IsChain release (batch ∷ chain) = Follows release batch × IsChain (after_batch release batch) chain
