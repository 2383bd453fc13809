-- Tests of numbers, and keys that come into a key book.
use Rattle.std.proofs.Common.{◌≡◌, ◌≢◌, ℕ, Bool, true, false, cond, eqb, refl, sym, ap, ◌∙◌, inl, inr, arith}
use Rattle.std.specs.Prelude.{Some, ◌||◌}
use Rattle.std.specs.FinMap as finmap
use Rattle.std.specs.FinMap.{get-insert}
use Rattle.std.specs.Ordering.{nat_cmp, is_eq}
use Rattle.std.specs.declared.cmp.Ordering.TheVariants.{Less, Equal, Greater}
use Rattle.std.specs.Cmp.{nat_cmp_total, nat_cmp_is}
use Rattle.std.proofs.lemmas.Bool.{cases_order, eq-eqb, ne_eqb}
use Rattle.std.proofs.lemmas.Bool.Decides.{eqb_tells}
use Rattle.tb_model.specs.Releases.{KeyBook}

-- the order's test is that of equal numbers
pub is_eq-nat_cmp : (a b : ℕ) → is_eq (nat_cmp a b) ≡ eqb a b
is_eq-nat_cmp a b =
    elim (cases_order a b) [
      | inl same ↦ rw (← nat_cmp_is a b Equal same, eq-eqb a b same) refl
      | inr apart ↦ elim apart [
        | inl below ↦ let ne : a ≢ b = omega arith in rw (← nat_cmp_is a b Less below, ne_eqb a b ne) refl
        | inr above ↦ let ne : a ≢ b = omega arith in rw (← nat_cmp_is a b Greater above, ne_eqb a b ne) refl
      ]
    ]

pub get-book_insert : (book : KeyBook) (person key q : ℕ) → finmap.get (finmap.insert book person key) q ≡ cond (eqb q person) (Some key) (finmap.get book q)
get-book_insert book person key q = get-insert nat_cmp_total book person key q ∙ ap (λ b. cond b (Some key) (finmap.get book q)) (is_eq-nat_cmp q person)

pub none_first : (b rest : Bool) → (b || rest) ≡ false → (b ≡ false) × (rest ≡ false)
none_first true rest none = cc
none_first false rest none = (refl, none)

pub flip : (a b : ℕ) → eqb a b ≡ eqb b a
flip a b =
    elim (eqb_tells a b) [
      | inl h ↦ rw (h.0, eq-eqb b a (sym h.1)) refl
      | inr h ↦ rw (h.0, ne_eqb b a (λ e. h.1 (sym e))) refl
    ]
