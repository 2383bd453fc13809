-- A draft before and after an edit.
use Rattle.std.proofs.Common.{◌≡◌, ℕ, ◌+◌, ◌<◌, ◌≤◌, true, false, List, [], length, refl, sym, ap, ◌∙◌, subst, arith}
use Rattle.std.specs.Prelude.{Option, Some, None}
use Rattle.std.proofs.lemmas.Bool.{le-leb, lt-leb}
use Rattle.tb_base.specs.declared.records.Record.{Record}
use Rattle.tb_base.specs.declared.people.TheConstants.{MOST_PERSONS}
use Rattle.tb_base.specs.Persons.{has_person}
use Rattle.tb_model.specs.Pages.{PageValue, records_in}
use Rattle.tb_pages.specs.Books.{keys_in}
use Rattle.tb_pages.specs.Pages.{changed_pages, record_of}
use Rattle.tb_pages.specs.Registers.{IsAdded, IsRegister, IsReplaced, IsTaken}
use Rattle.tb_pages.specs.Rooms.{AreFilledBy}
use Rattle.tb_pages.specs.declared.register.Register.{Register}
use Rattle.tb_pages.specs.declared.pages.TheConstants.{PAGES}
use Rattle.tb_pages.proofs.RoomLemmas.{few_pages, filled_changed}
use Rattle.tb_release.specs.declared.draft.Draft.{Draft}
use Rattle.tb_release.specs.declared.edits.Change.{Change}
use Rattle.tb_release.specs.declared.edits.Edit.{Edit}
use Rattle.tb_release.specs.declared.edits.Edit.TheVariants.{Add, Drop, Amend}
use Rattle.tb_release.specs.declared.fault.EditFaultKind.TheVariants as kind
use Rattle.tb_release.specs.declared.limits.TheConstants.{MOST_CHANGES}
use Rattle.tb_release.specs.Releases.{IsSound}
use Rattle.tb_release.specs.Edits.{amended, edited, edited_book, edited_pages, edited_records, is_of_rules, person_of}
use Rattle.tb_release.specs.Entries.{entry_of}
use Rattle.tb_release.specs.declared.edits.BatchEntry.TheVariants as entry
use Rattle.tb_release.specs.Possible.{CanAdd, IsPossible, has_other_key, refusal}
use Rattle.tb_release.specs.Batches.{change_of}
use Rattle.tb_release.specs.Drafts.{IsDraft, IsMade, release_of}
use Rattle.tb_release.proofs.Persons.{stands}
use Rattle.tb_release.proofs.Edited.{change_of-add, change_of-amend, change_of-drop, edited_in_pages, leads_pages, rules_stay, same_release, sound_after}

-- ---- refusals
pub person_there : (draft : Draft) (person key : ℕ) → has_person (records_in draft.register.pages) person ≡ true → Some kind.PersonThere ≡ refusal (release_of draft) (Add person key [])
person_there draft person key there = rw there refl

pub key_changed : (draft : Draft) (person key : ℕ) → has_person (records_in draft.register.pages) person ≡ false
    → has_other_key (keys_in draft.register.book) person key ≡ true → Some kind.KeyChanged ≡ refusal (release_of draft) (Add person key [])
key_changed draft person key none other = rw (none, other) refl

pub too_many : (draft : Draft) (person key : ℕ) → IsDraft draft → has_person (records_in draft.register.pages) person ≡ false
    → has_other_key (keys_in draft.register.book) person key ≡ false → draft.most ≤ draft.register.living → Some kind.TooMany ≡ refusal (release_of draft) (Add person key [])
too_many draft person key d none same full =
    let many : draft.most ≤ length (records_in draft.register.pages) = rw (← d.whole.living) full in
    rw (none, same, le-leb draft.most (length (records_in draft.register.pages)) many) refl

pub may_add : (draft : Draft) (person key : ℕ) → IsDraft draft → has_person (records_in draft.register.pages) person ≡ false
    → has_other_key (keys_in draft.register.book) person key ≡ false → draft.register.living < draft.most → None ≡ refusal (release_of draft) (Add person key [])
may_add draft person key d none same room =
    let few : length (records_in draft.register.pages) < draft.most = rw (← d.whole.living) room in
    rw (none, same, lt-leb draft.most (length (records_in draft.register.pages)) few) refl

pub present : (draft : Draft) (person : ℕ) → has_person (records_in draft.register.pages) person ≡ true → None ≡ refusal (release_of draft) (Drop person)
present draft person there = rw there refl

pub absent : (draft : Draft) (person : ℕ) → has_person (records_in draft.register.pages) person ≡ false → Some kind.NoSuchPerson ≡ refusal (release_of draft) (Drop person)
absent draft person none = rw none refl

-- ---- there is room for one page more
pub room_for_page : (draft : Draft) → IsDraft draft → draft.changes + draft.made < MOST_CHANGES → length draft.register.pages < PAGES
room_for_page draft d room = few_pages draft.register.pages (MOST_PERSONS + (draft.changes + draft.made)) d.room (omega arith)

-- ---- an edit that is possible, made in the register
made_sound : (old new : Draft) (edit : Edit) → IsDraft old → IsPossible (release_of old) edit → release_of new ≡ edited (release_of old) edit → IsSound (release_of new)
made_sound old new edit is can same = subst IsSound (sym same) (sound_after (release_of old) edit can is.sound)

room_after : (old new : Draft) (stamp person : ℕ) (before after : Option Record) → IsDraft old → new.register.pages ≡ changed_pages stamp old.register.pages person before after
    → new.changes ≡ old.changes → new.made ≡ old.made + 1 → AreFilledBy new.register.pages (MOST_PERSONS + (new.changes + new.made))
room_after old new stamp person before after is pages changes made =
    let more = filled_changed stamp old.register.pages person before after (MOST_PERSONS + (old.changes + old.made)) is.room in
    let adds : MOST_PERSONS + (old.changes + old.made) + 1 ≡ MOST_PERSONS + (new.changes + new.made) = omega (arith, changes, made) in
    subst (AreFilledBy new.register.pages) adds (subst (λ (ps : List PageValue). AreFilledBy ps (MOST_PERSONS + (old.changes + old.made) + 1)) (sym pages) more)

made_so : (old new : Draft) (edit : Edit) (before after : Option Record) → IsDraft old → IsPossible (release_of old) edit
    → is_of_rules edit ≡ false → entry_of (release_of old) edit ≡ entry.Record (change_of (release_of old) edit)
    → change_of (release_of old) edit ≡ record { person = person_of edit; before = before; after = after }
    → new.register.pages ≡ changed_pages (old.number + 1) old.register.pages (person_of edit) before after
    → keys_in new.register.book ≡ edited_book (keys_in old.register.book) edit → IsRegister new.register
    → new.made ≡ old.made + 1 → new.most ≡ old.most → new.number ≡ old.number → new.changes ≡ old.changes → new.edits ≡ old.edits → new.rules ≡ old.rules
    → IsMade edit old new (entry.Record (record { person = person_of edit; before = before; after = after }))
made_so old new edit before after is can of one change pages keys whole made most number changes edits rules =
    let pages_are : new.register.pages ≡ edited_pages (release_of old) edit =
    pages ∙ sym (ap (λ (c : Change). changed_pages (old.number + 1) old.register.pages (person_of edit) c.before c.after) change) ∙ leads_pages (release_of old) edit of in
    let records : records_in new.register.pages ≡ edited_records (records_in old.register.pages) edit =
    ap records_in pages_are ∙ sym (edited_in_pages (release_of old) edit is.sound.distinct can refl) in
    let release : release_of new ≡ edited (release_of old) edit = same_release records pages_are keys most number changes edits (rules ∙ sym (rules_stay old.rules edit of)) in record {
      leaves = release;
      makes = ap entry.Record (sym change) ∙ sym one;
      count = made;
      whole = record {
        whole = whole;
        sound = made_sound old new edit is can release;
        room = room_after old new (old.number + 1) (person_of edit) before after is pages changes made;
        number = let few = is.number in omega arith;
        fewer = let fewer = is.fewer in omega (arith, fewer, changes, edits);
      };
    }

-- ---- an add
pub same_codes : (person key : ℕ) (a b : List ℕ) → a ≡ b → ◌≡◌ {A = Record} (record { person = person; key = key; codes = a }) (record { person = person; key = key; codes = b })
same_codes person key a b e = rw e refl

pub add_made : (old new : Draft) (person key : ℕ) (codes copied : List ℕ) (after : Record) → IsDraft old → CanAdd (release_of old) person key → copied ≡ codes
    → after ≡ record { person = person; key = key; codes = copied }
    → IsAdded (old.number + 1) (record { person = person; key = key; codes = copied }) old.register new.register
    → new.made ≡ old.made + 1 → new.most ≡ old.most → new.number ≡ old.number → new.changes ≡ old.changes → new.edits ≡ old.edits → new.rules ≡ old.rules
    → IsMade (Add person key codes) old new (entry.Record (record { person = person; before = None; after = Some after }))
add_made old new person key codes copied after is can same is_after added made most number changes edits rules =
    made_so old new (Add person key codes) None (Some after) is can refl refl
    (change_of-add (release_of old) person key codes can.new ∙ same_add person (record { person = person; key = key; codes = codes }) after (sym (is_after ∙ same_codes person key copied codes same)))
    (added.pages ∙ ap (λ r. changed_pages (old.number + 1) old.register.pages person None (Some r)) (sym is_after)) added.keys added.whole made most number changes edits rules
  where
    same_add : (person : ℕ) (a b : Record) → a ≡ b → ◌≡◌ {A = Change} (record { person = person; before = None; after = Some a }) (record { person = person; before = None; after = Some b })
    same_add person a b e = rw e refl

-- ---- a drop
pub drop_made : (old new : Draft) (person : ℕ) (before : Record) → IsDraft old → has_person (records_in old.register.pages) person ≡ true
    → IsTaken (old.number + 1) person old.register new.register before
    → new.made ≡ old.made + 1 → new.most ≡ old.most → new.number ≡ old.number → new.changes ≡ old.changes → new.edits ≡ old.edits → new.rules ≡ old.rules
    → IsMade (Drop person) old new (entry.Record (record { person = person; before = Some before; after = None }))
drop_made old new person before is there taken made most number changes edits rules =
    made_so old new (Drop person) (Some before) None is there refl refl (change_of-drop (release_of old) person before is.sound.distinct taken.found)
    taken.pages taken.keys taken.whole made most number changes edits rules

-- ---- an amend
pub amended_own : (draft : Draft) (person : ℕ) (sets : List (ℕ × ℕ)) (was kept : Record) → IsDraft draft → record_of (records_in draft.register.pages) person ≡ Some was → kept ≡ amended sets was
    → kept.person ≡ person
amended_own draft person sets was kept is found is_kept =
    ap (λ (r : Record). r.person) is_kept ∙ sym (stands person (records_in draft.register.pages) was is.sound.distinct found).own

pub amend_made : (old new : Draft) (person : ℕ) (sets : List (ℕ × ℕ)) (was before kept after : Record) → IsDraft old → has_person (records_in old.register.pages) person ≡ true
    → record_of (records_in old.register.pages) person ≡ Some was → kept ≡ amended sets was → after ≡ kept
    → IsReplaced (old.number + 1) kept old.register new.register before
    → new.made ≡ old.made + 1 → new.most ≡ old.most → new.number ≡ old.number → new.changes ≡ old.changes → new.edits ≡ old.edits → new.rules ≡ old.rules
    → IsMade (Amend person sets) old new (entry.Record (record { person = person; before = Some before; after = Some after }))
amend_made old new person sets was before kept after is there found is_kept is_after replaced made most number changes edits rules =
    let own = amended_own old person sets was kept is found is_kept in
    let pages = old.register.pages in
    let same : before ≡ was = let both : Some before ≡ Some was = sym replaced.found ∙ ap (record_of (records_in pages)) own ∙ found in cc in
    made_so old new (Amend person sets) (Some before) (Some after) is there refl refl
    (change_of-amend (release_of old) person sets was is.sound.distinct found ∙ same_change person was before (amended sets was) after (sym same) (sym (is_after ∙ is_kept)))
    (replaced.pages ∙ ap (λ q. changed_pages (old.number + 1) pages q (Some before) (Some kept)) own
    ∙ ap (λ r. changed_pages (old.number + 1) pages person (Some before) (Some r)) (sym is_after)) replaced.keys replaced.whole made most number changes edits rules
  where
    same_change : (person : ℕ) (a b c d : Record) → a ≡ b → c ≡ d
        → ◌≡◌ {A = Change} (record { person = person; before = Some a; after = Some c }) (record { person = person; before = Some b; after = Some d })
    same_change person a b c d e f = rw (e, f) refl

-- ---- an edit of the rules
pub rule_made : (old new : Draft) (edit : Edit) → IsDraft old → entry_of (release_of old) edit ≡ entry.Rule edit → release_of new ≡ edited (release_of old) edit
    → IsPossible (release_of old) edit → new.register ≡ old.register → new.made ≡ old.made → new.number ≡ old.number → new.changes ≡ old.changes → new.edits ≡ old.edits
    → IsMade edit old new (entry.Rule edit)
rule_made old new edit is one leaves can register made number changes edits = record {
  leaves = leaves;
  makes = sym one;
  count = omega (arith, made);
  whole = record {
    whole = subst IsRegister (sym register) is.whole;
    sound = made_sound old new edit is can leaves;
    room =
        let same : MOST_PERSONS + (old.changes + old.made) ≡ MOST_PERSONS + (new.changes + new.made) = omega (arith, changes, made) in
        subst (λ (n : ℕ). AreFilledBy new.register.pages n) same (subst (λ (r : Register). AreFilledBy r.pages (MOST_PERSONS + (old.changes + old.made))) (sym register) is.room);
    number = let few = is.number in omega (arith, few, number);
    fewer = let fewer = is.fewer in omega (arith, fewer, changes, edits);
  };
}
