-- Where among the records a change is made.
use Rattle.std.proofs.Common.{◌≡◌, ℕ, ◌<◌, ◌≤◌, false, List, [], ◌∷◌, ◌++◌, length, length-append, append-nil, refl, sym, ap, subst, arith}
use Rattle.std.specs.Prelude.{Some, None}
use Rattle.std.specs.Option.{option_to_list}
use Rattle.tb_base.specs.declared.people.TheConstants.{MOST_PERSONS}
use Rattle.tb_base.specs.declared.records.Record.{Record}
use Rattle.tb_model.specs.Releases.{ReleaseValue}
use Rattle.tb_release.specs.declared.edits.Change.{Change}
use Rattle.tb_release.specs.declared.edits.Edit.{Edit}
use Rattle.tb_release.specs.declared.edits.Edit.TheVariants.{Add, Drop, Amend, Pvalue, Threshold, Oldest}
use Rattle.tb_release.specs.Releases.{IsSound}
use Rattle.tb_release.specs.Edits.{amended, edited, is_of_rules}
use Rattle.tb_release.specs.Possible.{IsPossible}
use Rattle.tb_release.specs.Batches.{change_of}
use Rattle.tb_release.proofs.Persons.{Stands, stands, found, dropped, replaced}
use Rattle.tb_release.proofs.FewRecords.{few_persons, room_for_one}
use Rattle.tb_release.proofs.Edited.{change_of-add, change_of-drop, change_of-amend}

-- the record after a change stands in the place of the one before it, and there is room for it
pub record Spot (old new : List Record) (change : Change) : Type 0 where
  pub first : List Record
  pub rest : List Record
  pub before : old ≡ first ++ (option_to_list change.before ++ rest)
  pub after : new ≡ first ++ (option_to_list change.after ++ rest)
  pub few : length (first ++ rest) < MOST_PERSONS

added : (person : ℕ) (new : Record) (records : List Record) → length records < MOST_PERSONS
    → Spot records (records ++ new ∷ []) (record { person = person; before = None; after = Some new })
added person new records few = record {
  first = records;
  rest = [];
  before = rw append-nil refl;
  after = refl;
  few = rw append-nil few;
}

fewer : {person : ℕ} {records : List Record} {r : Record} (s : Stands person records r) → length records ≤ MOST_PERSONS → length (s.before ++ s.after) < MOST_PERSONS
fewer {person} {records} {r} s few =
    omega (arith, few, ap length s.split, length-append s.before (r ∷ s.after), length-append s.before s.after)

-- the spot of an edit of a record that is possible
pub spot : (release : ReleaseValue) (edit : Edit) → is_of_rules edit ≡ false → IsSound release → IsPossible release edit → Spot release.records (edited release edit).records (change_of release edit)
spot release (Add person key codes) of sound can =
    let new : Record = record { person = person; key = key; codes = codes } in
    subst (Spot release.records (release.records ++ new ∷ [])) (sym (change_of-add release person key codes can.new)) (added person new release.records (room_for_one release person key sound can))
spot release (Drop person) of sound can =
    let r = found person release.records can in
    let s = stands person release.records r.0 sound.distinct r.1 in
    subst (Spot release.records (edited release (Drop person)).records) (sym (change_of-drop release person r.0 sound.distinct r.1)) (record {
      first = s.before;
      rest = s.after;
      before = s.split;
      after = dropped s;
      few = fewer s (few_persons release sound);
    })
spot release (Amend person sets) of sound can =
    let r = found person release.records can in
    let s = stands person release.records r.0 sound.distinct r.1 in
    subst (Spot release.records (edited release (Amend person sets)).records) (sym (change_of-amend release person sets r.0 sound.distinct r.1)) (record {
      first = s.before;
      rest = s.after;
      before = s.split;
      after = replaced (amended sets) s;
      few = fewer s (few_persons release sound);
    })
spot release (Pvalue row key pvalue) of sound can = cc
spot release (Threshold value) of sound can = cc
spot release (Oldest oldest) of sound can = cc
