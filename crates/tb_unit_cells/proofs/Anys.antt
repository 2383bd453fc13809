-- Tests of the elements of lists.
use Rattle.std.proofs.Common.{◌≡◌, ◌∙◌, sym, ap, refl, ℕ, zero, suc, ◌+◌, ◌<◌, ◌≤◌, ◌&&◌, ◌||◌, Bool, true, false, List, [], ◌∷◌, length, take, arith, inl, inr}
use Rattle.std.specs.Prelude.{◌==◌}
use Rattle.std.specs.List.{list_any, filter, AllByRecursion}
use Rattle.std.proofs.lemmas.Bool.{cases_Bool}
use Rattle.std.proofs.lemmas.List.Folds.{list_any_more}
use Rattle.tb_base.specs.declared.records.Record.{Record}
use Rattle.tb_model.specs.Units.{PairValue}
use Rattle.tb_grid.proofs.Sums.{eq-swap}
use Rattle.tb_units.specs.Chains.{any_to}
use Rattle.tb_units.specs.Pairs.{pair_at}

pub any-ext : {X : Type 0} (p q : X → Bool) (xs : List X) → ((x : X) → p x ≡ q x) → list_any p xs ≡ list_any q xs
any-ext p q [] same = refl
any-ext p q (x ∷ xs) same = rw (same x, any-ext p q xs same) refl

pub any-fit : {X : Type 0} (P : X → Type 0) (p q : X → Bool) (xs : List X) → AllByRecursion P xs → ((x : X) → P x → p x ≡ q x) → list_any p xs ≡ list_any q xs
any-fit P p q [] all same = refl
any-fit P p q (x ∷ xs) all same = rw (same x all.0, any-fit P p q xs all.1 same) refl

any-never : {X : Type 0} (p : X → Bool) (xs : List X) → ((x : X) → p x ≡ false) → list_any p xs ≡ false
any-never p [] never = refl
any-never p (x ∷ xs) never = rw (never x) (any-never p xs never)

mixed : (a b c d : Bool) → ((a || b) || (c || d)) ≡ ((a || c) || (b || d))
mixed true b c d = refl
mixed false true true d = refl
mixed false true false d = refl
mixed false false true d = refl
mixed false false false d = refl

any-or : {X : Type 0} (p q : X → Bool) (xs : List X) → list_any (λ x. p x || q x) xs ≡ (list_any p xs || list_any q xs)
any-or p q [] = refl
any-or p q (x ∷ xs) = rw (any-or p q xs) (mixed (p x) (q x) (list_any p xs) (list_any q xs))

any-and : {X : Type 0} (b : Bool) (p : X → Bool) (xs : List X) → list_any (λ x. b && p x) xs ≡ (b && list_any p xs)
any-and true p xs = refl
any-and false p xs = any-never (λ x. false && p x) xs (λ x. refl)

pub any-filter : {X : Type 0} (p q : X → Bool) (xs : List X) → list_any (λ x. p x && q x) xs ≡ list_any q (filter p xs)
any-filter p q [] = refl
any-filter p q (x ∷ xs) = elim (cases_Bool (p x)) [
  | inl t ↦ rw (t, any-filter p q xs) refl
  | inr t ↦ rw (t, any-filter p q xs) refl
]

-- of the links to a dwelling one passes exactly where one of all links is to it and passes
pub any-links : (links : List PairValue) (number : ℕ) (test : ℕ → Bool) (g : PairValue → Bool) (n : ℕ) → n ≤ length links → ((k : ℕ) → k < n → test k ≡ g (pair_at links k))
    → any_to links number test n ≡ list_any (λ l. (l.1 == number) && g l) (take n links)
unfolding any_to
any-links links number test g zero within same = refl
any-links links number test g (suc n) within same =
    let p : PairValue → Bool = λ l. (l.1 == number) && g l in
    let below : n < length links = omega (arith, within) in
    let one : suc n ≡ n + 1 = omega arith in
    rw (same n (omega arith), any-links links number test g n (omega (arith, within)) (λ k low. same k (omega (arith, low))))
    (or-swap (p (pair_at links n)) (list_any p (take n links)) ∙ sym (list_any_more p links n (0, 0) below) ∙ ap (λ k. list_any p (take k links)) (sym one))
  where
    or-swap : (a b : Bool) → (a || b) ≡ (b || a)
    or-swap true true = refl
    or-swap true false = refl
    or-swap false true = refl
    or-swap false false = refl

turned : (a b h c : Bool) → (a && ((b && h) || c)) ≡ ((h && (b && a)) || (a && c))
turned true true true c = refl
turned true true false c = refl
turned true false true c = refl
turned true false false c = refl
turned false true true c = refl
turned false true false c = refl
turned false false true c = refl
turned false false false c = refl

-- a link to the dwelling is of one of the records' persons exactly where one of the records is of a person who has a link to it
pub exchanged : (links : List PairValue) (number : ℕ) (h : Record → Bool) (records : List Record)
    → list_any (λ l. (l.1 == number) && list_any (λ r. (r.person == l.0) && h r) records) links
    ≡ list_any (λ r. h r && list_any (λ l. (l.0 == r.person) && (l.1 == number)) links) records
exchanged links number h [] = any-never (λ l. (l.1 == number) && false) links (λ l. never (l.1 == number))
  where
    never : (a : Bool) → (a && false) ≡ false
    never true = refl
    never false = refl
exchanged links number h (r ∷ rs) =
    let c : PairValue → Bool = λ l. list_any (λ s. (s.person == l.0) && h s) rs in
    any-ext (λ l. (l.1 == number) && (((r.person == l.0) && h r) || c l)) (λ l. (h r && ((l.0 == r.person) && (l.1 == number))) || ((l.1 == number) && c l)) links
    (λ l. rw (eq-swap r.person l.0) (turned (l.1 == number) (l.0 == r.person) (h r) (c l)))
    ∙ any-or (λ l. h r && ((l.0 == r.person) && (l.1 == number))) (λ l. (l.1 == number) && c l) links
    ∙ ap (λ b. b || list_any (λ l. (l.1 == number) && c l) links) (any-and (h r) (λ l. (l.0 == r.person) && (l.1 == number)) links)
    ∙ ap (λ b. (h r && list_any (λ l. (l.0 == r.person) && (l.1 == number)) links) || b) (exchanged links number h rs)
