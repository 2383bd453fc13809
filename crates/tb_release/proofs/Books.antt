-- Key books.
use Rattle.std.proofs.Common.{◌≡◌, ℕ, zero, suc, ◌<◌, true, false, not, eqb, List, [], ◌∷◌, map, length, get_or, refl, sym, ap, ◌∙◌, inl, inr, arith}
use Rattle.std.specs.Prelude.{Option, Some, None, ◌==◌}
use Rattle.std.specs.FinMap as finmap
use Rattle.std.specs.Ordering.{nat_cmp}
use Rattle.std.proofs.lemmas.Bool.{eq-eqb, ne_eqb, eqb-false}
use Rattle.std.proofs.lemmas.Bool.Decides.{eqb_tells}
use Rattle.std.specs.Option.{option_map_or}
use Rattle.tb_base.specs.declared.records.Record.{Record}
use Rattle.tb_base.specs.Persons.{has_person, AreDistinct}
use Rattle.tb_model.specs.Releases.{KeyBook}
use Rattle.tb_pages.proofs.Tests.{get-book_insert, none_first}
use Rattle.tb_release.specs.Possible.{has_other_key}

not_also : (a b : ℕ) → eqb a b ≡ false → eqb b a ≡ false
not_also a b e = ne_eqb b a (λ h. eqb-false a b e (sym h))

none_at : (xs : List Record) (person k : ℕ) (d : Record) → has_person xs person ≡ false → k < length xs → eqb person (get_or xs k d).person ≡ false
none_at [] person k d none within = absurd (omega arith)
none_at (x ∷ xs) person zero d none within = (none_first (eqb person x.person) (has_person xs person) none).0
none_at (x ∷ xs) person (suc k) d none within = none_at xs person k d (none_first (eqb person x.person) (has_person xs person) none).1 (omega arith)

-- a book made of records' pairs has each record's key
pub key_at : (records : List Record) (k : ℕ) (d : Record) → AreDistinct records → k < length records
    → finmap.get (finmap.from_entries {R = nat_cmp} (map (λ (r : Record). (r.person, r.key)) records)) (get_or records k d).person ≡ Some (get_or records k d).key
key_at [] k d distinct within = absurd (omega arith)
key_at (x ∷ xs) zero d distinct within =
    get-book_insert (finmap.from_entries (map (λ (r : Record). (r.person, r.key)) xs)) x.person x.key x.person
    ∙ rw (eq-eqb x.person x.person refl) refl
key_at (x ∷ xs) (suc k) d distinct within =
    let below : k < length xs = omega arith in
    let apart : eqb (get_or xs k d).person x.person ≡ false = not_also x.person (get_or xs k d).person (none_at xs x.person k d distinct.0 below) in
    get-book_insert (finmap.from_entries (map (λ (r : Record). (r.person, r.key)) xs)) x.person x.key (get_or xs k d).person
    ∙ rw apart (key_at xs k d distinct.1 below)

-- a person who stands in the book keeps the key
same_key : (found : Option ℕ) (key k : ℕ) → found ≡ Some k → option_map_or (λ old. not (old == key)) found false ≡ false → key ≡ k
same_key None key k is other = cc
same_key (Some old) key k is other =
    elim (eqb_tells old key) [
      | inl h ↦ let same : old ≡ k = cc in cc
      | inr h ↦ let bad : not (eqb old key) ≡ true = rw h.0 refl in cc
    ]

pub book_keeps : (book : KeyBook) (person key q k : ℕ) → has_other_key book person key ≡ false → finmap.get book q ≡ Some k → finmap.get (finmap.insert book person key) q ≡ Some k
book_keeps book person key q k fresh is =
    elim (eqb_tells q person) [
      | inl h ↦ rw (get-book_insert, h.0) (ap Some (same_key (finmap.get book person) key k (rw h.1 at is) fresh))
      | inr h ↦ rw (get-book_insert, h.0) is
    ]
