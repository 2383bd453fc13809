-- A change that is made in a register.
use Rattle.std.proofs.Common.{◌≡◌, ℕ, suc, ◌+◌, ◌-◌, ◌≤◌, true, false, cond, not, eqb, List, [], ◌∷◌, ◌++◌, map, length, get_or, set, refl, sym, ap, ◌∙◌, subst, arith, length-append}
use Rattle.std.specs.Prelude.{Some, None, filter, is_some, if◌then◌else◌, remove, slice_set}
use Rattle.std.specs.List.{slice_get}
use Rattle.std.specs.FinMap as finmap
use Rattle.std.proofs.lemmas.List.{length-map}
use Rattle.std.proofs.lemmas.Option.{get_or_from_slice_get}
use Rattle.tb_base.specs.declared.records.Record.{Record}
use Rattle.tb_base.specs.Persons.{has_person, AreDistinct}
use Rattle.tb_base.proofs.PersonLemmas.{AreDistinct-push}
use Rattle.tb_pages.specs.declared.register.Register.{Register}
use Rattle.tb_pages.specs.declared.register.Spot.{Spot}
use Rattle.tb_pages.specs.declared.shard.Entry.{Entry}
use Rattle.tb_pages.specs.Books.{keys_in, page_in}
use Rattle.tb_model.specs.Pages.{PageValue, page_of, records_in, with_added}
use Rattle.tb_pages.specs.Pages.{is_of, record_of, no_page, with_page, at_person, page_without, page_replaced, page_number}
use Rattle.tb_pages.specs.Registers.{IsAdded, IsRegister, IsReplaced, IsSpot, IsTaken}
use Rattle.tb_pages.proofs.Tests.{flip}
use Rattle.tb_pages.proofs.PageLaws.{records_in-added, records_in-without, records_in-replaced}
use Rattle.tb_pages.proofs.PageFinds.{PageAt, PlaceAt, page_at, place_at, has_page, page_number-added, page_number-without, page_number-replaced, distinct-without, distinct-replaced, less_one}
use Rattle.tb_pages.proofs.BookLemmas.{page_in-set, keys_in-set, keys_in-same}

-- ---- where a record stands
pub record Stands (pages : List PageValue) (person : ℕ) (spot : Spot) : Type 0 where
  pub page : PageAt person pages spot.page
  pub place : PlaceAt person (get_or pages spot.page no_page).records spot.place

pub stands : {pages : List PageValue} {person : ℕ} {spot : Spot} → AreDistinct (records_in pages) → IsSpot pages person spot → Stands pages person spot
stands {pages} {person} {spot} d is =
    let at = page_at person pages spot.page d is.page in record {
      page = at;
      place = place_at person (get_or pages spot.page no_page).records spot.place (subst (λ (p : PageValue). AreDistinct p.records) (sym (at.at no_page)) at.distinct) is.place.within is.place.own;
    }

pub found_there : {pages : List PageValue} {person : ℕ} {spot : Spot} (s : Stands pages person spot) → record_of (records_in pages) person ≡ Some s.place.r
found_there {pages} {person} {spot} s =
    s.page.found ∙ ap (λ (p : PageValue). record_of p.records person) (sym (s.page.at no_page)) ∙ s.place.found

pub person_there : {pages : List PageValue} {person : ℕ} {spot : Spot} (is : IsSpot pages person spot) → has_person (records_in pages) person ≡ true
person_there {pages} {person} {spot} is = sym (has_page pages person) ∙ ap is_some is.page

pub record_there : {pages : List PageValue} {person : ℕ} {spot : Spot} (s : Stands pages person spot) (x : Record) → slice_get (get_or pages spot.page no_page).records spot.place ≡ Some x → x ≡ s.place.r
record_there {pages} {person} {spot} s x is = sym (get_or_from_slice_get (get_or pages spot.page no_page).records spot.place x x is) ∙ s.place.at x

pub dropped_there : (stamp : ℕ) {pages : List PageValue} {person : ℕ} {spot : Spot} (s : Stands pages person spot)
    → with_page pages spot.page (remove (get_or pages spot.page no_page).records spot.place) stamp ≡ map (at_person person (page_without stamp person)) pages
dropped_there stamp {pages} {person} {spot} s =
    ap (λ rs. set pages spot.page (page_of rs stamp)) (sym s.place.dropped)
    ∙ ap (λ (p : PageValue). set pages spot.page (page_without stamp person p)) (s.page.at no_page) ∙ sym (s.page.changes (page_without stamp person))

pub replaced_there : (stamp : ℕ) (new : Record) {pages : List PageValue} {person : ℕ} {spot : Spot} (s : Stands pages person spot)
    → with_page pages spot.page (slice_set (get_or pages spot.page no_page).records spot.place new) stamp ≡ map (at_person person (page_replaced stamp person new)) pages
replaced_there stamp new {pages} {person} {spot} s =
    ap (λ rs. set pages spot.page (page_of rs stamp)) (sym (s.place.replaced (λ _. new)))
    ∙ ap (λ (p : PageValue). set pages spot.page (page_replaced stamp person new p)) (s.page.at no_page) ∙ sym (s.page.changes (page_replaced stamp person new))

-- ---- an add
pub add_made : (stamp : ℕ) (one : Record) (old new : Register) (page : ℕ) → IsRegister old → has_person (records_in old.pages) one.person ≡ false
    → new.pages ≡ with_added stamp one old.pages → length new.pages ≡ page + 1
    → new.book ≡ finmap.insert old.book one.person (record { person = one.person; key = one.key; page = Some page })
    → new.living ≡ old.living + 1 → IsAdded stamp one old new
add_made stamp one old new page is none pages long book living =
    let e : Entry = record { person = one.person; key = one.key; page = Some page } in
    let records : records_in new.pages ≡ records_in old.pages ++ one ∷ [] = ap records_in pages ∙ records_in-added stamp one old.pages in
    let last : length (with_added stamp one old.pages) ≡ suc page = let same = ap length pages in omega arith in record {
      pages = pages;
      keys = ap keys_in book ∙ keys_in-set old.book e;
      whole = record {
        placed = λ q. ap (λ b. page_in b q) book ∙ page_in-set old.book e q ∙ ap (λ o. cond (eqb q one.person) (Some page) o) (is.placed q)
            ∙ sym (ap (λ ps. page_number ps q) pages ∙ page_number-added stamp one old.pages q page none last);
        living = living ∙ ap (λ n. n + 1) is.living ∙ sym (ap length records ∙ length-append (records_in old.pages) (one ∷ []));
        distinct = subst AreDistinct (sym records) (AreDistinct-push (records_in old.pages) one is.distinct none);
      };
    }

-- ---- a drop
pub take_made : (stamp person : ℕ) (old new : Register) (spot : Spot) (before : Record) (entry : Entry) → IsRegister old → IsSpot old.pages person spot
    → slice_get (get_or old.pages spot.page no_page).records spot.place ≡ Some before
    → new.pages ≡ with_page old.pages spot.page (remove (get_or old.pages spot.page no_page).records spot.place) stamp
    → finmap.get old.book person ≡ Some entry
    → new.book ≡ finmap.insert old.book person (record { person = person; key = entry.key; page = None })
    → new.living ≡ old.living - 1 → IsTaken stamp person old new before
take_made stamp person old new spot before entry is at taken pages has book living =
    let s = stands is.distinct at in
    let there = person_there at in
    let e : Entry = record { person = person; key = entry.key; page = None } in
    let pages_are : new.pages ≡ map (at_person person (page_without stamp person)) old.pages = pages ∙ dropped_there stamp s in
    let records : records_in new.pages ≡ filter (λ x. not (is_of person x)) (records_in old.pages) = ap records_in pages_are ∙ records_in-without stamp person old.pages in record {
      found = found_there s ∙ ap Some (sym (record_there s before taken));
      pages = pages_are;
      keys = ap keys_in book ∙ keys_in-same old.book e entry has refl;
      whole = record {
        placed = λ q. ap (λ b. page_in b q) book ∙ page_in-set old.book e q ∙ ap (λ o. cond (eqb q person) None o) (is.placed q)
            ∙ ap (λ b. cond b None (page_number old.pages q)) (flip q person)
            ∙ sym (ap (λ ps. page_number ps q) pages_are ∙ page_number-without stamp person old.pages q);
        living =
            let less = less_one person (records_in old.pages) is.distinct there in
            let was = is.living in
            let now : length (records_in new.pages) ≡ length (filter (λ x. not (is_of person x)) (records_in old.pages)) = ap length records in
            omega arith;
        distinct = subst AreDistinct (sym records) (distinct-without person (records_in old.pages) is.distinct);
      };
    }

pub some_living : (register : Register) (person : ℕ) → IsRegister register → has_person (records_in register.pages) person ≡ true → 1 ≤ register.living
some_living register person is there = let more = some_there person (records_in register.pages) there in let was = is.living in omega arith
  where
    some_there : (person : ℕ) (rs : List Record) → has_person rs person ≡ true → 1 ≤ length rs
    some_there person [] is = cc
    some_there person (x ∷ xs) is = omega arith

-- ---- another record in the place of one
pub replace_made : (stamp : ℕ) (one : Record) (old new : Register) (spot : Spot) (before : Record) → IsRegister old → IsSpot old.pages one.person spot
    → slice_get (get_or old.pages spot.page no_page).records spot.place ≡ Some before
    → new.pages ≡ with_page old.pages spot.page (slice_set (get_or old.pages spot.page no_page).records spot.place one) stamp
    → new.book ≡ old.book → new.living ≡ old.living → IsReplaced stamp one old new before
replace_made stamp one old new spot before is at taken pages book living =
    let s = stands is.distinct at in
    let person = one.person in
    let pages_are : new.pages ≡ map (at_person person (page_replaced stamp person one)) old.pages = pages ∙ replaced_there stamp one s in
    let records : records_in new.pages ≡ map (λ r. if is_of person r then one else r) (records_in old.pages) = ap records_in pages_are ∙ records_in-replaced stamp person one old.pages in
    let long : length (map (λ r. if is_of person r then one else r) (records_in old.pages)) ≡ length (records_in old.pages) = length-map (records_in old.pages) (λ r. if is_of person r then one else r) in record {
      found = found_there s ∙ ap Some (sym (record_there s before taken));
      pages = pages_are;
      keys = ap keys_in book;
      whole = record {
        placed = λ q. ap (λ b. page_in b q) book ∙ is.placed q ∙ sym (ap (λ ps. page_number ps q) pages_are ∙ page_number-replaced stamp person one old.pages q refl);
        living = living ∙ is.living ∙ sym (ap length records ∙ long);
        distinct = subst AreDistinct (sym records) (distinct-replaced person one (records_in old.pages) refl is.distinct);
      };
    }
