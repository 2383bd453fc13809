-- How many pages there can be.
use Rattle.std.proofs.Common.{◌≡◌, ℕ, suc, ◌+◌, ◌<◌, ◌≤◌, Bool, true, false, cond, not, ltb, List, [], ◌∷◌, ◌++◌, map, length, refl, sym, ap, ◌∙◌, inl, inr, arith, length-append}
use Rattle.std.specs.Prelude.{◌⊎◌, fold, if◌then◌else◌, Some, None}
use Rattle.std.proofs.lemmas.Bool.{ltb-false, ltb-true}
use Rattle.std.proofs.lemmas.List.{length-map}
use Rattle.std.proofs.lemmas.List.Sums.{length-filter, count_by-le-length}
use Rattle.tb_base.specs.declared.records.Record.{Record}
use Rattle.tb_base.specs.Persons.{has_person}
use Rattle.tb_model.specs.declared.rooms.TheConstants.{PAGE_ROOM}
use Rattle.tb_model.specs.Pages.{PageValue, page_of, with_added}
use Rattle.tb_pages.specs.Pages.{is_of, at_person, page_without, page_replaced}
use Rattle.tb_pages.specs.Rooms.{last_length, AreFilledBy, ChangesFill, FewPages, RecordsFill}
use Rattle.tb_pages.proofs.PageFinds.{grown}

-- what an add does: the last page has one more, or a new page has one and the last one was full
pub record Grows (old new : List PageValue) : Type 0 where
  pub grows :
      ((length new ≡ length old) × (last_length new ≡ last_length old + 1) × (last_length old < PAGE_ROOM))
      ⊎ ((length new ≡ length old + 1) × (last_length new ≡ 1) × (PAGE_ROOM ≤ last_length old))

grows_last : (b : Bool) (stamp : ℕ) (r : Record) (p : PageValue) → ltb (length p.records) PAGE_ROOM ≡ b
    → Grows (p ∷ []) (if b then page_of (p.records ++ r ∷ []) stamp ∷ [] else p ∷ page_of (r ∷ []) stamp ∷ [])
grows_last true stamp r p is = record { grows = inl (refl, length-append p.records (r ∷ []), ltb-true (length p.records) PAGE_ROOM is) }
grows_last false stamp r p is = let full = ltb-false (length p.records) PAGE_ROOM is in record { grows = inr (omega arith, refl, full) }

last-cons : (p : PageValue) (xs : List PageValue) → 0 < length xs → last_length (p ∷ xs) ≡ last_length xs
last-cons p [] some = absurd (omega arith)
last-cons p (x ∷ xs) some = refl

grows-cons : (p : PageValue) (xs ys : List PageValue) → 0 < length xs → 0 < length ys → Grows xs ys → Grows (p ∷ xs) (p ∷ ys)
grows-cons p xs ys some more h =
    let a = last-cons p xs some in
    let b = last-cons p ys more in record {
      grows = elim h.grows [
        | inl same ↦ inl (ap suc same.0, b ∙ same.1 ∙ ap (λ n. n + 1) (sym a), let room = same.2 in omega arith)
        | inr next ↦ inr (let one = next.0 in omega arith, b ∙ next.1, let full = next.2 in omega arith)
      ];
    }

pub grows_added : (stamp : ℕ) (r : Record) (p : PageValue) (ps : List PageValue) → Grows (p ∷ ps) (with_added stamp r (p ∷ ps))
grows_added stamp r p [] = grows_last (ltb (length p.records) PAGE_ROOM) stamp r p refl
grows_added stamp r p (q ∷ ps) = grows-cons p (q ∷ ps) (with_added stamp r (q ∷ ps)) (omega arith) (grown stamp r (q ∷ ps)) (grows_added stamp r q ps)

grown_by : (old new : List PageValue) → Grows old new → length new ≤ length old + 1
grown_by old new h =
    elim h.grows [
      | inl same ↦ let a = same.0 in omega arith
      | inr next ↦ let a = next.0 in omega arith
    ]

pub one_page_more : (stamp : ℕ) (r : Record) (pages : List PageValue) → length (with_added stamp r pages) ≤ length pages + 1
one_page_more stamp r [] = omega arith
one_page_more stamp r (p ∷ ps) = grown_by (p ∷ ps) (with_added stamp r (p ∷ ps)) (grows_added stamp r p ps)

filled_grown : (old new : List PageValue) (adds : ℕ) → Grows old new → AreFilledBy old adds → AreFilledBy new (adds + 1)
filled_grown old new adds h filled =
    elim h.grows [
      | inl same ↦ let a = same.0 in let b = same.1 in omega arith
      | inr next ↦ let a = next.0 in let b = next.1 in let c = next.2 in omega arith
    ]

pub filled_added : (stamp : ℕ) (r : Record) (pages : List PageValue) (adds : ℕ) → AreFilledBy pages adds → AreFilledBy (with_added stamp r pages) (adds + 1)
filled_added stamp r [] adds filled = omega arith
filled_added stamp r (p ∷ ps) adds filled = filled_grown (p ∷ ps) (with_added stamp r (p ∷ ps)) adds (grows_added stamp r p ps) filled

less_if : (b : Bool) (p q : PageValue) → length q.records ≤ length p.records → length (cond b q p).records ≤ length p.records
less_if true p q le = le
less_if false p q le = omega arith

pub last_length-map : (person : ℕ) (f : PageValue → PageValue) → ((p : PageValue) → length (f p).records ≤ length p.records) → (pages : List PageValue)
    → last_length (map (at_person person f) pages) ≤ last_length pages
last_length-map person f less [] = omega arith
last_length-map person f less (p ∷ []) = less_if (has_person p.records person) p (f p) (less p)
last_length-map person f less (p ∷ (q ∷ ps)) = last_length-map person f less (q ∷ ps)

filled_map : (person : ℕ) (f : PageValue → PageValue) → ((p : PageValue) → length (f p).records ≤ length p.records) → (pages : List PageValue) (adds : ℕ)
    → AreFilledBy pages adds → AreFilledBy (map (at_person person f) pages) (adds + 1)
filled_map person f less pages adds filled =
    let long = length-map pages (at_person person f) in
    let last = last_length-map person f less pages in omega arith

pub filled_changed : ChangesFill
filled_changed stamp pages person None None adds filled = omega arith
filled_changed stamp pages person None (Some new) adds filled = filled_added stamp new pages adds filled
filled_changed stamp pages person (Some old) None adds filled =
    filled_map person (page_without stamp person)
    (λ p. rw (length-filter (λ x. not (is_of person x)) p.records) (count_by-le-length (λ x. not (is_of person x)) p.records)) pages adds filled
filled_changed stamp pages person (Some old) (Some new) adds filled =
    filled_map person (page_replaced stamp person new)
    (λ p. let same = length-map p.records (λ r. if is_of person r then new else r) in omega arith) pages adds filled

all_fill : (pages : List PageValue) (rs : List Record) (adds : ℕ) → AreFilledBy pages adds → AreFilledBy (fold (λ ps r. with_added 0 r ps) pages rs) (adds + length rs)
all_fill pages [] adds filled = omega arith
all_fill pages (r ∷ rs) adds filled =
    let rest = all_fill (with_added 0 r pages) rs (adds + 1) (filled_added 0 r pages adds filled) in omega arith

pub records_fill : RecordsFill
records_fill records = let h = all_fill [] records 0 (omega arith) in omega arith

-- so there are few
pub few_pages : FewPages
few_pages pages adds filled le = omega arith
