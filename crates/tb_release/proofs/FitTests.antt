-- What the tests tell: whether records and edits fit a shape.
use Rattle.std.proofs.Common.{◌≡◌, ◌≢◌, ℕ, zero, suc, ◌+◌, ◌<◌, ◌≤◌, ◌&&◌, Bool, true, false}
use Rattle.std.proofs.Common.{List, [], ◌∷◌, drop, length, get_or, Some, refl, sym, ap, ◌∙◌, add-one, arith}
use Rattle.std.specs.Prelude.{◌↔◌, All, nat_lt, slice_get, slice_index}
use Rattle.std.specs.List.{list_all, AllByRecursion}
use Rattle.std.proofs.lemmas.Bool.{and_from, and_parts, lt-ltb, ltb-true, leb-true, le-leb}
use Rattle.std.proofs.lemmas.List.{drop_more}
use Rattle.std.proofs.lemmas.List.Elements.{All-from_recursion, recursion_from_All}
use Rattle.tb_base.specs.declared.keys.TheConstants.{MOST_KEYS}
use Rattle.tb_base.specs.declared.records.Record.{Record}
use Rattle.tb_base.specs.Records.{Fits}
use Rattle.tb_base.specs.declared.limits.TheConstants.{MOST_THRESHOLD}
use Rattle.tb_base.proofs.Setting.{can_told, can_back}
use Rattle.tb_release.specs.declared.edits.Edit.{Edit}
use Rattle.tb_release.specs.declared.edits.Edit.TheVariants.{Add, Drop, Amend, Pvalue, Threshold, Oldest}
use Rattle.tb_release.specs.Fitting.{codes_fit, edit_fits, edits_fit, record_fits, setting_fits}
use Rattle.tb_release.specs.Laws.{EditFits}

-- ---- loops over lists: an element that fails, and one that passes
module _ {X : Type 0} (f : X → Bool) (xs : List X) (i : ℕ) (x : X) (here : drop i xs ≡ x ∷ drop (i + 1) xs) (rest : list_all f
    (drop i xs) ≡ list_all f xs) where
  pub ends_all : false ≡ f x → false ≡ list_all f xs
  ends_all fails = ap (λ b. b && list_all f (drop (i + 1) xs)) fails ∙ sym (ap (list_all f) here) ∙ rest

  pub goes_all : true ≡ f x → list_all f (drop (i + 1) xs) ≡ list_all f xs
  goes_all passes = ap (λ b. b && list_all f (drop (i + 1) xs)) passes ∙ sym (ap (list_all f) here) ∙ rest

-- the element at a place, and the others after it
pub left_at : {X : Type 0} (xs : List X) (i : ℕ) (x d : X) → i < length xs → x ≡ get_or xs i d → drop i xs ≡ x ∷ drop (i + 1) xs
left_at xs i x d within is = drop_more xs i d within ∙ ap (λ y. y ∷ drop (i + 1) xs) (sym is)

pub drop_here : {X : Type 0} (xs : List X) (i : ℕ) (x : X) → slice_get xs i ≡ Some x → drop i xs ≡ x ∷ drop (i + 1) xs
drop_here [] i x is = cc
drop_here (y ∷ xs) zero x is = let same : y ≡ x = cc in ap (λ z. z ∷ xs) same
drop_here (y ∷ xs) (suc i) x is = rw add-one (rw add-one at (drop_here xs i x is))

drop_nil : {X : Type 0} (i : ℕ) → drop i (let none : List X = [] in none) ≡ []
drop_nil zero = refl
drop_nil (suc i) = refl

-- no element is left
all_passed : {X : Type 0} (f : X → Bool) (xs : List X) (i : ℕ) → length xs ≤ i → list_all f (drop i xs) ≡ true
all_passed f [] i long = ap (list_all f) (drop_nil i)
all_passed f (x ∷ xs) zero long = absurd (omega arith)
all_passed f (x ∷ xs) (suc i) long = all_passed f xs i (omega arith)

pub passes_all : {X : Type 0} (f : X → Bool) (xs : List X) (i : ℕ) → length xs ≤ i → list_all f (drop i xs) ≡ list_all f xs
    → list_all f xs ≡ true
passes_all f xs i long rest = sym rest ∙ all_passed f xs i long

-- ---- a test of each element
pub all_told : {X : Type 0} (f : X → Bool) (P : X → Type 0) → ((x : X) → f x ≡ true → P x) → (xs : List X) → list_all f xs ≡ true
    → AllByRecursion P xs
all_told f P tells [] h = tt
all_told f P tells (x ∷ xs) h =
    let parts = and_parts (f x) (list_all f xs) h in (tells x parts.0, all_told f P tells xs parts.1)

pub all_back : {X : Type 0} (f : X → Bool) (P : X → Type 0) → ((x : X) → P x → f x ≡ true) → (xs : List X) → AllByRecursion P xs
    → list_all f xs ≡ true
all_back f P passes [] all = refl
all_back f P passes (x ∷ xs) all = and_from (f x) (list_all f xs) (passes x all.0) (all_back f P passes xs all.1)

-- ---- records and edits
pub apart : (shape codes : List ℕ) → length codes ≢ length shape → codes_fit shape codes ≡ false
apart [] [] h = absurd (h refl)
apart [] (c ∷ codes) h = refl
apart (n ∷ shape) [] h = refl
apart (n ∷ shape) (c ∷ codes) h =
    elim (nat_lt c n) as (λ b. (b && codes_fit shape codes) ≡ false) [
      | true ↦ apart shape codes (λ e. h (ap suc e))
      | false ↦ refl
    ]

long : (shape codes : List ℕ) → codes_fit shape codes ≡ true → length codes ≡ length shape
long [] [] h = refl
long [] (c ∷ codes) h = cc
long (n ∷ shape) [] h = cc
long (n ∷ shape) (c ∷ codes) h = ap suc (long shape codes (and_parts (nat_lt c n) (codes_fit shape codes) h).1)

below : (shape codes : List ℕ) → codes_fit shape codes ≡ true → (v : ℕ) → v < length shape → get_or codes v 0 < get_or shape v 0
below [] codes h v within = absurd (omega arith)
below (n ∷ shape) [] h v within = cc
below (n ∷ shape) (c ∷ codes) h zero within = ltb-true c n (and_parts (nat_lt c n) (codes_fit shape codes) h).0
below (n ∷ shape) (c ∷ codes) h (suc v) within = below shape codes (and_parts (nat_lt c n) (codes_fit shape codes) h).1 v (omega arith)

fit_back : (shape codes : List ℕ) → length codes ≡ length shape → ((v : ℕ) → v < length shape → get_or codes v 0 < get_or shape v 0)
    → codes_fit shape codes ≡ true
fit_back [] [] l b = refl
fit_back [] (c ∷ codes) l b = absurd (omega (arith, l))
fit_back (n ∷ shape) [] l b = absurd (omega (arith, l))
fit_back (n ∷ shape) (c ∷ codes) l b =
    and_from (nat_lt c n) (codes_fit shape codes) (lt-ltb c n (b 0 (omega arith)))
    (fit_back shape codes (omega (arith, l)) (λ v within. b (suc v) (omega arith)))

abbrev Set : List ℕ → ℕ × ℕ → Type 0
Set shape s = (s.0 < length shape) × (s.1 < slice_index shape s.0)

setting_told : (shape : List ℕ) (s : ℕ × ℕ) → setting_fits shape s ≡ true → Set shape s
setting_told shape s h =
    let parts = and_parts (nat_lt s.0 (length shape)) (nat_lt s.1 (slice_index shape s.0)) h in
    (ltb-true s.0 (length shape) parts.0, ltb-true s.1 (slice_index shape s.0) parts.1)

setting_back : (shape : List ℕ) (s : ℕ × ℕ) → Set shape s → setting_fits shape s ≡ true
setting_back shape s h =
    and_from (nat_lt s.0 (length shape)) (nat_lt s.1 (slice_index shape s.0)) (lt-ltb s.0 (length shape) h.0) (lt-ltb s.1
    (slice_index shape s.0) h.1)

pub record_told : (shape : List ℕ) (person key : ℕ) (codes : List ℕ) → record_fits shape key codes ≡ true
    → Fits shape (record { person = person; key = key; codes = codes })
record_told shape person key codes h =
    let parts = and_parts (nat_lt key MOST_KEYS) (codes_fit shape codes) h in
    record { long = long shape codes parts.1; below = below shape codes parts.1; key = ltb-true key MOST_KEYS parts.0 }

pub record_back : (shape : List ℕ) (r : Record) → Fits shape r → record_fits shape r.key r.codes ≡ true
record_back shape r fits =
    and_from (nat_lt r.key MOST_KEYS) (codes_fit shape r.codes) (lt-ltb r.key MOST_KEYS fits.key)
    (fit_back shape r.codes fits.long fits.below)

pub sets_told : (shape : List ℕ) (sets : List (ℕ × ℕ)) → list_all (setting_fits shape) sets ≡ true → AllByRecursion (Set shape) sets
sets_told shape sets h = all_told (setting_fits shape) (Set shape) (setting_told shape) sets h

pub one_told : (shape : List ℕ) (e : Edit) → edit_fits shape e ≡ true → EditFits shape e
one_told shape (Add person key codes) h = record_told shape person key codes h
one_told shape (Drop person) h = tt
one_told shape (Amend person sets) h = sets_told shape sets h
one_told shape (Pvalue row key pvalue) h = can_told row key pvalue h
one_told shape (Threshold value) h = leb-true value MOST_THRESHOLD h
one_told shape (Oldest oldest) h = tt

one_back : (shape : List ℕ) (e : Edit) → EditFits shape e → edit_fits shape e ≡ true
one_back shape (Add person key codes) fits = record_back shape (record { person = person; key = key; codes = codes }) fits
one_back shape (Drop person) fits = refl
one_back shape (Amend person sets) fits = all_back (setting_fits shape) (Set shape) (setting_back shape) sets fits
one_back shape (Pvalue row key pvalue) fits = can_back row key pvalue fits
one_back shape (Threshold value) fits = le-leb value MOST_THRESHOLD fits
one_back shape (Oldest oldest) fits = refl

pub fits_all : (shape : List ℕ) (edits : List Edit) → edits_fit shape edits ≡ true → All (EditFits shape) edits
fits_all shape edits h = All-from_recursion (EditFits shape) edits (all_told (edit_fits shape) (EditFits shape) (one_told shape) edits h)

fits_back : (shape : List ℕ) (edits : List Edit) → All (EditFits shape) edits → edits_fit shape edits ≡ true
fits_back shape edits all = all_back (edit_fits shape) (EditFits shape) (one_back shape) edits (recursion_from_All
    (EditFits shape) edits all)

-- ---- the law
pub fit_is_told : (shape : List ℕ) (edits : List Edit) → (edits_fit shape edits ≡ true) ↔ All (EditFits shape) edits
fit_is_told shape edits = (fits_all shape edits, fits_back shape edits)
