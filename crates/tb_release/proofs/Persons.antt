-- A person's record among records of distinct persons.
use Rattle.std.proofs.Common.{◌≡◌, ℕ, Bool, true, false, cond, not, eqb, List, [], ◌∷◌, ◌++◌, map, refl, ap, inl, inr}
use Rattle.std.specs.Prelude.{Some, None, filter, if◌then◌else◌, ◌||◌}
use Rattle.std.proofs.lemmas.Bool.Decides.{eqb_tells}
use Rattle.std.proofs.lemmas.Bool.{eq-eqb}
use Rattle.std.proofs.lemmas.List.{map-append}
use Rattle.std.proofs.lemmas.List.Folds.{find-append}
use Rattle.std.proofs.lemmas.List.Elements.{filter-append}
use Rattle.tb_base.specs.declared.records.Record.{Record}
use Rattle.tb_base.specs.Persons.{has_person, AreDistinct}
use Rattle.tb_pages.specs.Pages.{is_of, record_of}
use Rattle.tb_pages.proofs.Tests.{none_first}
use Rattle.tb_pages.proofs.PageLaws.{filter_of_none, map_unless}

-- the person's record stands at one place
pub record Stands (person : ℕ) (records : List Record) (r : Record) : Type 0 where
  pub before : List Record
  pub after : List Record
  pub split : records ≡ before ++ r ∷ after
  pub own : person ≡ r.person
  pub none_before : has_person before person ≡ false
  pub none_after : has_person after person ≡ false

stands-cons : (b : Bool) (person : ℕ) (x : Record) (xs : List Record) (r : Record) → eqb person x.person ≡ b
    → has_person xs x.person ≡ false → cond b (Some x) (record_of xs person) ≡ Some r → (record_of xs person ≡ Some r → Stands person xs r) → Stands person (x ∷ xs) r
stands-cons true person x xs r e none found more =
    elim (eqb_tells person x.person) [
      | inl h ↦ let same : x ≡ r = cc in record {
        before = [];
        after = xs;
        split = rw same refl;
        own = rw (← same) h.1;
        none_before = refl;
        none_after = rw h.1 none;
      }
      | inr h ↦ cc
    ]
stands-cons false person x xs r e none found more =
    let h = more found in record {
      before = x ∷ h.before;
      after = h.after;
      split = ap (λ rs. x ∷ rs) h.split;
      own = h.own;
      none_before = rw (e, h.none_before) refl;
      none_after = h.none_after;
    }

pub stands : (person : ℕ) (records : List Record) (r : Record) → AreDistinct records → record_of records person ≡ Some r → Stands person records r
stands person [] r distinct found = cc
stands person (x ∷ xs) r distinct found = stands-cons (eqb person x.person) person x xs r refl distinct.0 found (stands person xs r distinct.1)

-- whose record is found
pub none_found : (person : ℕ) (records : List Record) → has_person records person ≡ false → record_of records person ≡ None
none_found person [] none = refl
none_found person (x ∷ xs) none =
    let h = none_first (eqb person x.person) (has_person xs person) none in rw h.0 (none_found person xs h.1)

found-cons : (b : Bool) (person : ℕ) (x : Record) (xs : List Record) → (b || has_person xs person) ≡ true → (has_person xs person ≡ true → (r : Record) × (record_of xs person ≡ Some r))
    → (r : Record) × (cond b (Some x) (record_of xs person) ≡ Some r)
found-cons true person x xs is more = (x, refl)
found-cons false person x xs is more = more is

pub found : (person : ℕ) (records : List Record) → has_person records person ≡ true → (r : Record) × (record_of records person ≡ Some r)
found person [] is = cc
found person (x ∷ xs) is = found-cons (eqb person x.person) person x xs is (found person xs)

-- the person's record is taken out
pub dropped : {person : ℕ} {records : List Record} {r : Record} (s : Stands person records r)
    → filter (λ x. not (is_of person x)) records ≡ s.before ++ s.after
dropped {person} {records} {r} s =
    let same : eqb person r.person ≡ true = eq-eqb person r.person s.own in
    rw (s.split, filter-append (λ x. not (is_of person x)) s.before (r ∷ s.after), same, filter_of_none person s.before s.none_before, filter_of_none person s.after s.none_after) refl

-- the person's record is replaced in its place
pub replaced : (f : Record → Record) {person : ℕ} {records : List Record} {r : Record} (s : Stands person records r)
    → map (λ x. if is_of person x then f x else x) records ≡ s.before ++ f r ∷ s.after
replaced f {person} {records} {r} s =
    let same : eqb person r.person ≡ true = eq-eqb person r.person s.own in
    rw (s.split, map-append (λ x. if is_of person x then f x else x) s.before (r ∷ s.after), same, map_unless f person s.before s.none_before, map_unless f person s.after s.none_after) refl

-- whose record is found afterwards
pub record_of-here : (person : ℕ) (before after : List Record) (x : Record) → person ≡ x.person → has_person before person ≡ false → record_of (before ++ x ∷ after) person ≡ Some x
record_of-here person before after x own none =
    rw (find-append (is_of person) before (x ∷ after), none_found person before none, eq-eqb person x.person own) refl

pub record_of-gone : (person : ℕ) (before after : List Record) → has_person before person ≡ false → has_person after person ≡ false → record_of (before ++ after) person ≡ None
record_of-gone person before after none_before none_after =
    rw (find-append (is_of person) before after, none_found person before none_before) (none_found person after none_after)

-- ---- persons stay distinct
kept_none : (b : Bool) (test : Record → Bool) (person : ℕ) (x : Record) (xs : List Record) → (eqb person x.person ≡ false) × (has_person xs person ≡ false)
    → (has_person xs person ≡ false → has_person (filter test xs) person ≡ false) → has_person (cond b (x ∷ filter test xs) (filter test xs)) person ≡ false
kept_none true test person x xs h more = rw h.0 (more h.1)
kept_none false test person x xs h more = more h.1

none_in_filter : (test : Record → Bool) (person : ℕ) (records : List Record) → has_person records person ≡ false → has_person (filter test records) person ≡ false
none_in_filter test person [] none = refl
none_in_filter test person (x ∷ xs) none =
    kept_none (test x) test person x xs (none_first (eqb person x.person) (has_person xs person) none) (none_in_filter test person xs)

kept_distinct : (b : Bool) (test : Record → Bool) (x : Record) (xs : List Record) → has_person (filter test xs) x.person ≡ false → AreDistinct (filter test xs)
    → AreDistinct (cond b (x ∷ filter test xs) (filter test xs))
kept_distinct true test x xs none d = (none, d)
kept_distinct false test x xs none d = d

pub distinct-filter : (test : Record → Bool) (records : List Record) → AreDistinct records → AreDistinct (filter test records)
distinct-filter test [] d = tt
distinct-filter test (x ∷ xs) d = kept_distinct (test x) test x xs (none_in_filter test x.person xs d.0) (distinct-filter test xs d.1)

none_in_map : (f : Record → Record) → ((r : Record) → (f r).person ≡ r.person) → (person : ℕ) (records : List Record) → has_person records person ≡ false → has_person (map f records) person ≡ false
none_in_map f keeps person [] none = refl
none_in_map f keeps person (x ∷ xs) none =
    let h = none_first (eqb person x.person) (has_person xs person) none in rw (keeps x, h.0) (none_in_map f keeps person xs h.1)

pub distinct-map : (f : Record → Record) → ((r : Record) → (f r).person ≡ r.person) → (records : List Record) → AreDistinct records → AreDistinct (map f records)
distinct-map f keeps [] d = tt
distinct-map f keeps (x ∷ xs) d = (rw (keeps x) (none_in_map f keeps x.person xs d.0), distinct-map f keeps xs d.1)
