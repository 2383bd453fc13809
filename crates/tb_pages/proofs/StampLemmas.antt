-- What the stamps of pages tell.
use Rattle.std.proofs.Common.{◌≡◌, ℕ, zero, suc, ◌<◌, ◌≤◌, Bool, true, false, cond, ltb, List, [], ◌∷◌, ◌++◌, map, length, get_or, refl, sym, ap, ◌∙◌, subst, inl, inr, arith}
use Rattle.std.specs.Prelude.{◌⊎◌, fold, if◌then◌else◌, Some, None}
use Rattle.std.proofs.lemmas.Bool.{cases_lt}
use Rattle.std.proofs.lemmas.List.{get_or-map, length-map}
use Rattle.tb_base.specs.declared.records.Record.{Record}
use Rattle.tb_base.specs.Persons.{has_person}
use Rattle.tb_model.specs.declared.rooms.TheConstants.{PAGE_ROOM}
use Rattle.tb_model.specs.Pages.{PageValue, page_of, with_added, cut}
use Rattle.tb_pages.specs.Pages.{no_page, at_person, page_without, page_replaced}
use Rattle.tb_pages.specs.Stamps.{KeepsPages, ChangesKeepPages, StepsKeepPages, StampsTell}

pub keeps_none : (stamp : ℕ) (pages : List PageValue) → KeepsPages stamp pages pages
keeps_none stamp pages = record { long = omega arith; kept = λ i w. inr refl; fresh = λ i low w. absurd (omega arith) }

then_kept : (stamp : ℕ) (a b c : PageValue) → (c.stamp ≡ stamp) ⊎ (c ≡ b) → (b.stamp ≡ stamp) ⊎ (b ≡ a) → (c.stamp ≡ stamp) ⊎ (c ≡ a)
then_kept stamp a b c (inl t) first = inl t
then_kept stamp a b c (inr e) (inl t) = inl (ap (λ (p : PageValue). p.stamp) e ∙ t)
then_kept stamp a b c (inr e) (inr f) = inr (e ∙ f)

then_fresh : (stamp : ℕ) (b c : PageValue) → (c.stamp ≡ stamp) ⊎ (c ≡ b) → b.stamp ≡ stamp → c.stamp ≡ stamp
then_fresh stamp b c (inl t) first = t
then_fresh stamp b c (inr e) first = ap (λ (p : PageValue). p.stamp) e ∙ first

pub keeps_then : StepsKeepPages
keeps_then stamp a b c h k =
    let ab = h.long in
    let bc = k.long in record {
      long = omega arith;
      kept = λ i w. then_kept stamp (get_or a i no_page) (get_or b i no_page) (get_or c i no_page) (k.kept i (omega arith)) (h.kept i w);
      fresh = λ i low w. elim (cases_lt i (length b)) [
        | inl in_b ↦ then_fresh stamp (get_or b i no_page) (get_or c i no_page) (k.kept i in_b) (h.fresh i low in_b)
        | inr past ↦ k.fresh i past w
      ];
    }

at_kept : (b : Bool) (stamp : ℕ) (p q : PageValue) → q.stamp ≡ stamp → ((cond b q p).stamp ≡ stamp) ⊎ (cond b q p ≡ p)
at_kept true stamp p q is = inl is
at_kept false stamp p q is = inr refl

keeps_map : (stamp person : ℕ) (f : PageValue → PageValue) → ((p : PageValue) → (f p).stamp ≡ stamp) → (pages : List PageValue) → KeepsPages stamp pages (map (at_person person f) pages)
keeps_map stamp person f stamps pages =
    let long = length-map pages (at_person person f) in record {
      long = omega arith;
      kept = λ i w.
          let here = get_or-map (at_person person f) pages i no_page no_page w in
          let p = get_or pages i no_page in
          subst (λ (q : PageValue). (q.stamp ≡ stamp) ⊎ (q ≡ p)) (sym here) (at_kept (has_person p.records person) stamp p (f p) (stamps p));
      fresh = λ i low w. absurd (omega arith);
    }

kept-cons : (stamp : ℕ) (p : PageValue) (xs ys : List PageValue) → KeepsPages stamp xs ys → (i : ℕ) → i < length (p ∷ xs)
    → ((get_or (p ∷ ys) i no_page).stamp ≡ stamp) ⊎ (get_or (p ∷ ys) i no_page ≡ get_or (p ∷ xs) i no_page)
kept-cons stamp p xs ys h zero w = inr refl
kept-cons stamp p xs ys h (suc i) w = h.kept i (omega arith)

fresh-cons : (stamp : ℕ) (p : PageValue) (xs ys : List PageValue) → KeepsPages stamp xs ys → (i : ℕ) → length (p ∷ xs) ≤ i → i < length (p ∷ ys) → (get_or (p ∷ ys) i no_page).stamp ≡ stamp
fresh-cons stamp p xs ys h zero low w = absurd (omega arith)
fresh-cons stamp p xs ys h (suc i) low w = h.fresh i (omega arith) (omega arith)

keeps-cons : (stamp : ℕ) (p : PageValue) (xs ys : List PageValue) → KeepsPages stamp xs ys → KeepsPages stamp (p ∷ xs) (p ∷ ys)
keeps-cons stamp p xs ys h = let long = h.long in record {
  long = omega arith;
  kept = kept-cons stamp p xs ys h;
  fresh = fresh-cons stamp p xs ys h;
}

fresh_one : (stamp : ℕ) (rs : List Record) (i : ℕ) → i < 1 → (get_or (page_of rs stamp ∷ []) i no_page).stamp ≡ stamp
fresh_one stamp rs zero w = refl
fresh_one stamp rs (suc i) w = absurd (omega arith)

keeps_new : (stamp : ℕ) (r : Record) → KeepsPages stamp [] (page_of (r ∷ []) stamp ∷ [])
keeps_new stamp r = record { long = omega arith; kept = λ i w. absurd (omega arith); fresh = λ i low w. fresh_one stamp (r ∷ []) i (omega arith) }

keeps_last : (b : Bool) (stamp : ℕ) (r : Record) (p : PageValue) → KeepsPages stamp (p ∷ []) (if b then page_of (p.records ++ r ∷ []) stamp ∷ [] else p ∷ page_of (r ∷ []) stamp ∷ [])
keeps_last true stamp r p = record {
  long = omega arith;
  kept = λ i w. inl (fresh_one stamp (p.records ++ r ∷ []) i (omega arith));
  fresh = λ i low w. absurd (omega arith);
}
keeps_last false stamp r p = keeps-cons stamp p [] (page_of (r ∷ []) stamp ∷ []) (keeps_new stamp r)

pub keeps_added : (stamp : ℕ) (r : Record) (pages : List PageValue) → KeepsPages stamp pages (with_added stamp r pages)
keeps_added stamp r [] = keeps_new stamp r
keeps_added stamp r (p ∷ []) = keeps_last (ltb (length p.records) PAGE_ROOM) stamp r p
keeps_added stamp r (p ∷ (q ∷ ps)) = keeps-cons stamp p (q ∷ ps) (with_added stamp r (q ∷ ps)) (keeps_added stamp r (q ∷ ps))

pub keeps_changed : ChangesKeepPages
keeps_changed stamp pages person None None = keeps_none stamp pages
keeps_changed stamp pages person None (Some new) = keeps_added stamp new pages
keeps_changed stamp pages person (Some old) None = keeps_map stamp person (page_without stamp person) (λ p. refl) pages
keeps_changed stamp pages person (Some old) (Some new) = keeps_map stamp person (page_replaced stamp person new) (λ p. refl) pages

cut_keeps : (pages : List PageValue) (rs : List Record) → KeepsPages 0 pages (fold (λ ps r. with_added 0 r ps) pages rs)
cut_keeps pages [] = keeps_none 0 pages
cut_keeps pages (r ∷ rs) =
    keeps_then 0 pages (with_added 0 r pages) (fold (λ ps r. with_added 0 r ps) (with_added 0 r pages) rs) (keeps_added 0 r pages) (cut_keeps (with_added 0 r pages) rs)

-- ---- the pages of a chain of releases
abbrev pub IsTold : (ℕ → List PageValue) → ℕ → ℕ → PageValue → Type 0
IsTold pages n i p = (p.stamp ≤ n) × (p ≡ get_or (pages p.stamp) i no_page)

-- a page that is as it was was told by then
told : (pages : ℕ → List PageValue) (n i : ℕ) (now was : PageValue) → now ≡ was → IsTold pages n i was → IsTold pages (suc n) i now
told pages n i now was same h = subst (IsTold pages (suc n) i) (sym same) (let low = h.0 in omega arith, h.1)

stamped : (pages : ℕ → List PageValue) (n i : ℕ) → (get_or (pages n) i no_page).stamp ≡ n → IsTold pages n i (get_or (pages n) i no_page)
stamped pages n i is = (omega (arith, is), ap (λ k. get_or (pages k) i no_page) (sym is))

either_told : (pages : ℕ → List PageValue) (n i : ℕ)
    → ((get_or (pages (suc n)) i no_page).stamp ≡ suc n) ⊎ (get_or (pages (suc n)) i no_page ≡ get_or (pages n) i no_page)
    → IsTold pages n i (get_or (pages n) i no_page) → IsTold pages (suc n) i (get_or (pages (suc n)) i no_page)
either_told pages n i (inl t) before = stamped pages (suc n) i t
either_told pages n i (inr e) before = told pages n i (get_or (pages (suc n)) i no_page) (get_or (pages n) i no_page) e before

pub stamps_tell : StampsTell
stamps_tell people pages first steps zero i w =
    let w' : i < length (cut people) = subst (λ (ps : List PageValue). i < length ps) first w in
    stamped pages 0 i (subst (λ (ps : List PageValue). (get_or ps i no_page).stamp ≡ 0) (sym first) ((cut_keeps [] people).fresh i (omega arith) w'))
stamps_tell people pages first steps (suc n) i w =
    elim (cases_lt i (length (pages n))) [
      | inl in_old ↦ either_told pages n i ((steps n).kept i in_old) (stamps_tell people pages first steps n i in_old)
      | inr past ↦ stamped pages (suc n) i ((steps n).fresh i past w)
    ]
