-- What a change leaves in pages is what it leaves in the list of all records.
use Rattle.std.proofs.Common.{◌≡◌, ℕ, Bool, true, false, not, eqb, ltb, List, [], ◌∷◌, ◌++◌, map, length, refl, sym, ap, ◌∙◌, append_assoc, append-nil}
use Rattle.std.specs.Prelude.{filter, fold, if◌then◌else◌}
use Rattle.std.proofs.lemmas.List.{map-append}
use Rattle.std.proofs.lemmas.List.Elements.{filter-append}
use Rattle.tb_base.specs.declared.records.Record.{Record}
use Rattle.tb_base.specs.Persons.{has_person}
use Rattle.tb_pages.proofs.Tests.{none_first}
use Rattle.tb_model.specs.declared.rooms.TheConstants.{PAGE_ROOM}
use Rattle.tb_model.specs.Pages.{PageValue, page_of, records_in, with_added, cut}
use Rattle.tb_pages.specs.Pages.{is_of, at_person, page_without, page_replaced}

-- ---- one more record
added_to_last : (b : Bool) (stamp : ℕ) (r : Record) (p : PageValue) → records_in (if b then page_of (p.records ++ r ∷ []) stamp ∷ [] else p ∷ page_of (r ∷ []) stamp ∷ []) ≡ records_in (p ∷ []) ++ r ∷ []
added_to_last true stamp r p = append-nil (p.records ++ r ∷ []) ∙ ap (λ rs. rs ++ r ∷ []) (sym (append-nil p.records))
added_to_last false stamp r p = ap (λ rs. rs ++ r ∷ []) (sym (append-nil p.records))

pub records_in-added : (stamp : ℕ) (r : Record) (pages : List PageValue) → records_in (with_added stamp r pages) ≡ records_in pages ++ r ∷ []
records_in-added stamp r [] = refl
records_in-added stamp r (p ∷ []) = added_to_last (ltb (length p.records) PAGE_ROOM) stamp r p
records_in-added stamp r (p ∷ (q ∷ ps)) =
    ap (λ rs. p.records ++ rs) (records_in-added stamp r (q ∷ ps)) ∙ sym (append_assoc p.records (records_in (q ∷ ps)) (r ∷ []))

records_in-all_added : (pages : List PageValue) (records : List Record) → records_in (fold (λ ps r. with_added 0 r ps) pages records) ≡ records_in pages ++ records
records_in-all_added pages [] = sym (append-nil (records_in pages))
records_in-all_added pages (r ∷ rs) =
    records_in-all_added (with_added 0 r pages) rs ∙ ap (λ xs. xs ++ rs) (records_in-added 0 r pages) ∙ append_assoc (records_in pages) (r ∷ []) rs

pub records_in-cut : (records : List Record) → records_in (cut records) ≡ records
records_in-cut records = records_in-all_added [] records

-- ---- a change of a person's record
pub filter_of_none : (person : ℕ) (records : List Record) → has_person records person ≡ false → filter (λ r. not (is_of person r)) records ≡ records
filter_of_none person [] none = refl
filter_of_none person (x ∷ xs) none =
    let h = none_first (eqb person x.person) (has_person xs person) none in rw (h.0, filter_of_none person xs h.1) refl

pub map_unless : (f : Record → Record) (person : ℕ) (records : List Record) → has_person records person ≡ false → map (λ r. if is_of person r then f r else r) records ≡ records
map_unless f person [] none = refl
map_unless f person (x ∷ xs) none =
    let h = none_first (eqb person x.person) (has_person xs person) none in rw (h.0, map_unless f person xs h.1) refl

pub without_there : (b : Bool) (stamp person : ℕ) (p : PageValue) → has_person p.records person ≡ b → (if b then page_without stamp person p else p).records ≡ filter (λ r. not (is_of person r)) p.records
without_there true stamp person p is = refl
without_there false stamp person p is = sym (filter_of_none person p.records is)

pub replaced_there : (b : Bool) (stamp person : ℕ) (new : Record) (p : PageValue) → has_person p.records person ≡ b
    → (if b then page_replaced stamp person new p else p).records ≡ map (λ r. if is_of person r then new else r) p.records
replaced_there true stamp person new p is = refl
replaced_there false stamp person new p is = sym (map_unless (λ _. new) person p.records is)

pub records_in-without : (stamp person : ℕ) (pages : List PageValue) → records_in (map (at_person person (page_without stamp person)) pages) ≡ filter (λ r. not (is_of person r)) (records_in pages)
records_in-without stamp person [] = refl
records_in-without stamp person (p ∷ ps) =
    ap (λ rs. rs ++ records_in (map (at_person person (page_without stamp person)) ps)) (without_there (has_person p.records person) stamp person p refl)
    ∙ ap (λ rs. filter (λ r. not (is_of person r)) p.records ++ rs) (records_in-without stamp person ps)
    ∙ sym (filter-append (λ r. not (is_of person r)) p.records (records_in ps))

pub records_in-replaced : (stamp person : ℕ) (new : Record) (pages : List PageValue)
    → records_in (map (at_person person (page_replaced stamp person new)) pages) ≡ map (λ r. if is_of person r then new else r) (records_in pages)
records_in-replaced stamp person new [] = refl
records_in-replaced stamp person new (p ∷ ps) =
    ap (λ rs. rs ++ records_in (map (at_person person (page_replaced stamp person new)) ps)) (replaced_there (has_person p.records person) stamp person new p refl)
    ∙ ap (λ rs. map (λ r. if is_of person r then new else r) p.records ++ rs) (records_in-replaced stamp person new ps)
    ∙ sym (map-append (λ r. if is_of person r then new else r) p.records (records_in ps))
