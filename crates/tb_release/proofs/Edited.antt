-- One edit.
use Rattle.std.proofs.Common.{◌≡◌, ℕ, ◌+◌, ◌≤◌, Bool, true, false, not, leb, ltb, List, [], ◌∷◌, ◌++◌, map, length, refl, sym, ap, ◌∙◌, arith, length-append}
use Rattle.std.specs.Prelude.{Option, Some, None, filter, ◌||◌, if◌then◌else◌}
use Rattle.std.specs.FinMap as finmap
use Rattle.std.proofs.lemmas.Bool.{leb-false, lt-leb, ltb-false, le-ltb, eq-eqb}
use Rattle.std.proofs.lemmas.List.{length-map}
use Rattle.std.proofs.lemmas.List.Sums.{length-filter, count_by-le-length}
use Rattle.std.proofs.lemmas.List.Elements.{All-push, All-filter, All-map, All-weaker}
use Rattle.tb_base.specs.declared.records.Record.{Record}
use Rattle.tb_base.specs.Persons.{has_person, AreDistinct}
use Rattle.tb_base.proofs.PersonLemmas.{AreDistinct-push}
use Rattle.tb_base.specs.Rules.{RulesValue}
use Rattle.tb_model.specs.Pages.{PageValue, records_in}
use Rattle.tb_model.specs.Releases.{KeyBook, ReleaseValue}
use Rattle.tb_pages.specs.Pages.{changed_pages, is_of, record_of}
use Rattle.tb_pages.proofs.PageLaws.{records_in-added, records_in-without, records_in-replaced}
use Rattle.tb_pages.proofs.Tests.{get-book_insert}
use Rattle.tb_release.specs.declared.edits.Edit.{Edit}
use Rattle.tb_release.specs.declared.edits.Edit.TheVariants.{Add, Drop, Amend, Pvalue, Threshold, Oldest}
use Rattle.tb_release.specs.declared.fault.EditFaultKind.TheVariants as kind
use Rattle.tb_release.specs.declared.edits.Change.{Change}
use Rattle.tb_release.specs.Releases.{IsSound, HasKeyOf}
use Rattle.tb_release.specs.Edits.{edited, edited_book, edited_pages, edited_records, edited_rules, is_of_rules, amended, person_of}
use Rattle.tb_release.specs.Possible.{IsPossible, refusal, has_other_key}
use Rattle.tb_release.specs.Batches.{change_of}
use Rattle.tb_release.specs.Chains.{changed, changed_book, changed_records}
use Rattle.tb_release.proofs.Persons.{stands, found, none_found, dropped, replaced, record_of-here, record_of-gone, distinct-filter, distinct-map}
use Rattle.tb_release.proofs.Books.{book_keeps}

-- ---- an edit is possible exactly where there is no refusal
add_parts : (a b c : Bool) → (if a then Some kind.PersonThere else if b then Some kind.KeyChanged else if c then Some kind.TooMany else None) ≡ None → (a ≡ false) × (b ≡ false) × (c ≡ false)
add_parts true b c none = cc
add_parts false true c none = cc
add_parts false false true none = cc
add_parts false false false none = (refl, refl, refl)

there : (b : Bool) → (if b then None else Some kind.NoSuchPerson) ≡ None → b ≡ true
there true none = refl
there false none = cc

oldest_parts : (a b : Bool) → (if a || b then Some kind.BadRelease else None) ≡ None → (a ≡ false) × (b ≡ false)
oldest_parts true b none = cc
oldest_parts false true none = cc
oldest_parts false false none = (refl, refl)

pub possible_of : (release : ReleaseValue) (edit : Edit) → refusal release edit ≡ None → IsPossible release edit
possible_of release (Add person key codes) none =
    let h = add_parts (has_person release.records person) (has_other_key release.key_book person key) (leb release.most (length release.records)) none in record {
      new = h.0;
      same_key = h.1;
      room = leb-false release.most (length release.records) h.2;
    }
possible_of release (Drop person) none = there (has_person release.records person) none
possible_of release (Amend person sets) none = there (has_person release.records person) none
possible_of release (Pvalue row key pvalue) none = tt
possible_of release (Threshold value) none = tt
possible_of release (Oldest oldest) none =
    let h = oldest_parts (ltb oldest release.rules.oldest) (ltb (release.number + 1) oldest) none in record {
      low = ltb-false oldest release.rules.oldest h.0;
      high = ltb-false (release.number + 1) oldest h.1;
    }

pub none_of : (release : ReleaseValue) (edit : Edit) → IsPossible release edit → refusal release edit ≡ None
none_of release (Add person key codes) can = rw (can.new, can.same_key, lt-leb release.most (length release.records) can.room) refl
none_of release (Drop person) is = rw is refl
none_of release (Amend person sets) is = rw is refl
none_of release (Pvalue row key pvalue) is = refl
none_of release (Threshold value) is = refl
none_of release (Oldest oldest) can = rw (le-ltb oldest release.rules.oldest can.low, le-ltb (release.number + 1) oldest can.high) refl

-- ---- its change
pub change_of-add : (release : ReleaseValue) (person key : ℕ) (codes : List ℕ) → has_person release.records person ≡ false
    → change_of release (Add person key codes) ≡ record { person = person; before = None; after = Some (record { person = person; key = key; codes = codes }) }
change_of-add release person key codes nobody =
    let new : Record = record { person = person; key = key; codes = codes } in
    let here : record_of (release.records ++ new ∷ []) person ≡ Some new = record_of-here person release.records [] new refl nobody in
    rw (none_found person release.records nobody, here) refl

pub change_of-drop : (release : ReleaseValue) (person : ℕ) (r : Record) → AreDistinct release.records → record_of release.records person ≡ Some r
    → change_of release (Drop person) ≡ record { person = person; before = Some r; after = None }
change_of-drop release person r distinct is =
    let s = stands person release.records r distinct is in
    let gone : record_of (filter (λ x. not (is_of person x)) release.records) person ≡ None = rw (dropped s) (record_of-gone person s.before s.after s.none_before s.none_after) in
    rw (is, gone) refl

pub change_of-amend : (release : ReleaseValue) (person : ℕ) (sets : List (ℕ × ℕ)) (r : Record) → AreDistinct release.records → record_of release.records person ≡ Some r
    → change_of release (Amend person sets) ≡ record { person = person; before = Some r; after = Some (amended sets r) }
change_of-amend release person sets r distinct is =
    let s = stands person release.records r distinct is in
    let here : record_of (s.before ++ amended sets r ∷ s.after) person ≡ Some (amended sets r) =
    record_of-here person s.before s.after (amended sets r) s.own s.none_before in
    let kept : record_of (map (λ x. if is_of person x then amended sets x else x) release.records) person ≡ Some (amended sets r) = rw (replaced (amended sets) s) here in
    rw (is, kept) refl

-- an edit of a record that is possible is known by its change
pub leads_records : (release : ReleaseValue) (edit : Edit) → is_of_rules edit ≡ false → AreDistinct release.records → IsPossible release edit
    → changed_records release.records (person_of edit) (change_of release edit).before (change_of release edit).after ≡ edited_records release.records edit
leads_records release (Add person key codes) of distinct can =
    ap (λ (c : Change). changed_records release.records person c.before c.after) (change_of-add release person key codes can.new)
leads_records release (Drop person) of distinct can =
    let r = found person release.records can in
    ap (λ (c : Change). changed_records release.records person c.before c.after) (change_of-drop release person r.0 distinct r.1)
leads_records release (Amend person sets) of distinct can =
    let r = found person release.records can in
    let s = stands person release.records r.0 distinct r.1 in
    ap (λ (c : Change). changed_records release.records person c.before c.after) (change_of-amend release person sets r.0 distinct r.1)
    ∙ (replaced (λ _. amended sets r.0) s ∙ sym (replaced (amended sets) s))
leads_records release (Pvalue row key pvalue) of distinct can = cc
leads_records release (Threshold value) of distinct can = cc
leads_records release (Oldest oldest) of distinct can = cc

leads_book : (release : ReleaseValue) (edit : Edit) → is_of_rules edit ≡ false → AreDistinct release.records → IsPossible release edit
    → changed_book release.key_book (person_of edit) (change_of release edit).before (change_of release edit).after ≡ edited_book release.key_book edit
leads_book release (Add person key codes) of distinct can =
    ap (λ (c : Change). changed_book release.key_book person c.before c.after) (change_of-add release person key codes can.new)
leads_book release (Drop person) of distinct can =
    let r = found person release.records can in
    ap (λ (c : Change). changed_book release.key_book person c.before c.after) (change_of-drop release person r.0 distinct r.1)
leads_book release (Amend person sets) of distinct can =
    let r = found person release.records can in
    ap (λ (c : Change). changed_book release.key_book person c.before c.after) (change_of-amend release person sets r.0 distinct r.1)
leads_book release (Pvalue row key pvalue) of distinct can = cc
leads_book release (Threshold value) of distinct can = cc
leads_book release (Oldest oldest) of distinct can = cc

-- it leaves the rules, and the pages that its change leaves
pub rules_stay : (rules : RulesValue) (edit : Edit) → is_of_rules edit ≡ false → edited_rules rules edit ≡ rules
rules_stay rules (Add person key codes) of = refl
rules_stay rules (Drop person) of = refl
rules_stay rules (Amend person sets) of = refl
rules_stay rules (Pvalue row key pvalue) of = cc
rules_stay rules (Threshold value) of = cc
rules_stay rules (Oldest oldest) of = cc

pub leads_pages : (release : ReleaseValue) (edit : Edit) → is_of_rules edit ≡ false
    → changed_pages (release.number + 1) release.pages (person_of edit) (change_of release edit).before (change_of release edit).after ≡ edited_pages release edit
leads_pages release edit of =
    sym (ap (λ (b : Bool). if b then release.pages else changed_pages (release.number + 1) release.pages (person_of edit) (change_of release edit).before (change_of release edit).after) of)

-- releases with the same parts
pub same_release : {a b : List Record} {ps qs : List PageValue} {m n : KeyBook} {most most' number number' changes changes' edits edits' : ℕ} {rules rules' : RulesValue}
    → a ≡ b → ps ≡ qs → m ≡ n → most ≡ most' → number ≡ number' → changes ≡ changes' → edits ≡ edits' → rules ≡ rules'
    → ◌≡◌ {A = ReleaseValue} (record { records = a; pages = ps; key_book = m; most = most; number = number; changes = changes; edits = edits; rules = rules })
    (record { records = b; pages = qs; key_book = n; most = most'; number = number'; changes = changes'; edits = edits'; rules = rules' })
same_release records pages book most number changes edits rules = rw (records, pages, book, most, number, changes, edits, rules) refl

pub changed-change_of : (release : ReleaseValue) (edit : Edit) → is_of_rules edit ≡ false → AreDistinct release.records → IsPossible release edit
    → changed release (change_of release edit) ≡ edited release edit
changed-change_of release edit of distinct can =
    same_release (leads_records release edit of distinct can) (leads_pages release edit of) (leads_book release edit of distinct can) refl refl refl refl (sym (rules_stay release.rules edit of))

-- a change leaves the same in the pages as in the list of all records
pub records_in-changed : (stamp : ℕ) (pages : List PageValue) (person : ℕ) (before after : Option Record)
    → records_in (changed_pages stamp pages person before after) ≡ changed_records (records_in pages) person before after
records_in-changed stamp pages person None None = refl
records_in-changed stamp pages person None (Some new) = records_in-added stamp new pages
records_in-changed stamp pages person (Some old) None = records_in-without stamp person pages
records_in-changed stamp pages person (Some old) (Some new) = records_in-replaced stamp person new pages

record_in_pages : (release : ReleaseValue) (edit : Edit) → is_of_rules edit ≡ false → AreDistinct release.records → IsPossible release edit → release.records ≡ records_in release.pages
    → edited_records release.records edit ≡ records_in (edited_pages release edit)
record_in_pages release edit of distinct can in_pages =
    let c = change_of release edit in
    sym (leads_records release edit of distinct can) ∙ ap (λ rs. changed_records rs (person_of edit) c.before c.after) in_pages
    ∙ sym (records_in-changed (release.number + 1) release.pages (person_of edit) c.before c.after) ∙ ap records_in (leads_pages release edit of)

pub edited_in_pages : (release : ReleaseValue) (edit : Edit) → AreDistinct release.records → IsPossible release edit → release.records ≡ records_in release.pages
    → edited_records release.records edit ≡ records_in (edited_pages release edit)
edited_in_pages release (Add person key codes) distinct can in_pages = record_in_pages release (Add person key codes) refl distinct can in_pages
edited_in_pages release (Drop person) distinct can in_pages = record_in_pages release (Drop person) refl distinct can in_pages
edited_in_pages release (Amend person sets) distinct can in_pages = record_in_pages release (Amend person sets) refl distinct can in_pages
edited_in_pages release (Pvalue row key pvalue) distinct can in_pages = in_pages
edited_in_pages release (Threshold value) distinct can in_pages = in_pages
edited_in_pages release (Oldest oldest) distinct can in_pages = in_pages

-- ---- what it keeps
pub key_stays : (release : ReleaseValue) (edit : Edit) → IsPossible release edit → (q k : ℕ) → finmap.get release.key_book q ≡ Some k → finmap.get (edited release edit).key_book q ≡ Some k
key_stays release (Add person key codes) can q k is = book_keeps release.key_book person key q k can.same_key is
key_stays release (Drop person) can q k is = is
key_stays release (Amend person sets) can q k is = is
key_stays release (Pvalue row key pvalue) can q k is = is
key_stays release (Threshold value) can q k is = is
key_stays release (Oldest oldest) can q k is = is

set_if-person : (b : Bool) (sets : List (ℕ × ℕ)) (r : Record) → (if b then amended sets r else r).person ≡ r.person
set_if-person true sets r = refl
set_if-person false sets r = refl

has_key_if : (b : Bool) (book : KeyBook) (sets : List (ℕ × ℕ)) (r : Record) → HasKeyOf book r → HasKeyOf book (if b then amended sets r else r)
has_key_if true book sets r h = h
has_key_if false book sets r h = h

pub sound_after : (release : ReleaseValue) (edit : Edit) → IsPossible release edit → IsSound release → IsSound (edited release edit)
sound_after release (Add person key codes) can s =
    let new : Record = record { person = person; key = key; codes = codes } in
    let more : length (release.records ++ new ∷ []) ≡ length release.records + 1 = length-append release.records (new ∷ []) in
    let book : KeyBook = finmap.insert release.key_book person key in
    let own : HasKeyOf book new = rw (get-book_insert release.key_book person key person, eq-eqb person person refl) refl in record {
      distinct = AreDistinct-push release.records new s.distinct can.new;
      in_book = All-push (HasKeyOf book) release.records new
          (All-weaker (HasKeyOf release.key_book) (HasKeyOf book) (λ r h. book_keeps release.key_book person key r.person r.key can.same_key h) release.records s.in_book) own;
      few = let room = can.room in omega arith;
      most = s.most;
      in_pages = edited_in_pages release (Add person key codes) s.distinct can s.in_pages;
    }
sound_after release (Drop person) can s =
    let less : length (filter (λ x. not (is_of person x)) release.records) ≤ length release.records =
    rw (length-filter (λ x. not (is_of person x)) release.records) (count_by-le-length (λ x. not (is_of person x)) release.records) in record {
      distinct = distinct-filter (λ x. not (is_of person x)) release.records s.distinct;
      in_book = All-filter (λ x. not (is_of person x)) (HasKeyOf release.key_book) release.records s.in_book;
      few = let few = s.few in omega arith;
      most = s.most;
      in_pages = edited_in_pages release (Drop person) s.distinct can s.in_pages;
    }
sound_after release (Amend person sets) can s = record {
  distinct = distinct-map (λ x. if is_of person x then amended sets x else x) (λ r. set_if-person (is_of person r) sets r) release.records s.distinct;
  in_book = All-map (HasKeyOf release.key_book) (λ x. if is_of person x then amended sets x else x) release.records
      (All-weaker (HasKeyOf release.key_book) (λ r. HasKeyOf release.key_book (if is_of person r then amended sets r else r)) (λ r h. has_key_if (is_of person r) release.key_book sets r h) release.records s.in_book);
  few = rw length-map s.few;
  most = s.most;
  in_pages = edited_in_pages release (Amend person sets) s.distinct can s.in_pages;
}
sound_after release (Pvalue row key pvalue) can s = record { distinct = s.distinct; in_book = s.in_book; few = s.few; most = s.most; in_pages = s.in_pages }
sound_after release (Threshold value) can s = record { distinct = s.distinct; in_book = s.in_book; few = s.few; most = s.most; in_pages = s.in_pages }
sound_after release (Oldest oldest) can s = record { distinct = s.distinct; in_book = s.in_book; few = s.few; most = s.most; in_pages = s.in_pages }

-- ---- no release is shown again
pub oldest_rises : (release : ReleaseValue) (edit : Edit) → IsPossible release edit → release.rules.oldest ≤ (edited release edit).rules.oldest
oldest_rises release (Add person key codes) can = omega arith
oldest_rises release (Drop person) can = omega arith
oldest_rises release (Amend person sets) can = omega arith
oldest_rises release (Pvalue row key pvalue) can = omega arith
oldest_rises release (Threshold value) can = omega arith
oldest_rises release (Oldest oldest) can = can.low
