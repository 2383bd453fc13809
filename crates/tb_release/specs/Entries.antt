-- What stands in a batch for an edit.
use Rattle.std.specs.Prelude.{ℕ, [], ◌∷◌, ◌++◌}
use Rattle.tb_model.specs.Releases.{ReleaseValue}
use Rattle.tb_release.specs.declared.edits.BatchEntry.{BatchEntry}
use Rattle.tb_release.specs.declared.edits.BatchEntry.TheVariants as entry
use Rattle.tb_release.specs.declared.edits.Edit.{Edit}
use Rattle.tb_release.specs.declared.edits.Edit.TheVariants.{Add, Drop, Amend, Pvalue}
use Rattle.tb_release.specs.declared.edits.Edit.TheVariants.{Oldest, Threshold}
use Rattle.tb_release.specs.Batches.{BatchValue, change_of}
use Rattle.tb_release.specs.RuleEdits.{IsRuleEdit}

-- the change of an edit of a record, and an edit of the rules itself
abbrev pub entry_of : ReleaseValue → Edit → BatchEntry
entry_of release (Add person key codes) = entry.Record (change_of release (Add person key codes))
entry_of release (Drop person) = entry.Record (change_of release (Drop person))
entry_of release (Amend person sets) = entry.Record (change_of release (Amend person sets))
entry_of release (Pvalue row key pvalue) = entry.Rule (Pvalue row key pvalue)
entry_of release (Threshold value) = entry.Rule (Threshold value)
entry_of release (Oldest oldest) = entry.Rule (Oldest oldest)

-- how many changes an entry is
abbrev pub changes_in : BatchEntry → ℕ
changes_in (entry.Record change) = 1
changes_in (entry.Rule edit) = 0

-- an entry of the rules is an edit of them in range
abbrev pub IsEntry : BatchEntry → Type 0
IsEntry (entry.Record change) = Unit {0}
IsEntry (entry.Rule edit) = IsRuleEdit edit

-- a batch with one more entry, as the last of its list
abbrev pub with_entry : BatchValue → BatchEntry → BatchValue
with_entry batch (entry.Record change) = record batch { changes = batch.changes ++ change ∷ [] }
with_entry batch (entry.Rule edit) = record batch { rule_edits = batch.rule_edits ++ edit ∷ [] }

-- two batches in one, one after the other
abbrev pub joined : BatchValue → BatchValue → BatchValue
joined a b =
    record { changes = a.changes ++ b.changes; rule_edits = a.rule_edits ++ b.rule_edits }
