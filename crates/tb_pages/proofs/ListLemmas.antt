-- Entries in the lists of their shards, in any order, and sorted.
use Rattle.std.proofs.Common.{◌≡◌, ℕ, zero, suc, ◌+◌, ◌%◌, ◌<◌, Bool, true, false, cond, eqb, List, [], ◌∷◌, ◌++◌, map, length, take, get_or, set, replicate, refl, sym, ap, ◌∙◌, subst, inl, inr, arith}
use Rattle.std.specs.Prelude.{Option, Some, None, is_some, ◌&&◌, ◌||◌}
use Rattle.std.specs.List.{list_any, IsDistinct, AllByRecursion}
use Rattle.std.specs.List.Sorted.{IsPermutation, IsNonDecreasingBy}
use Rattle.std.specs.Option.{option_map_or}
use Rattle.std.specs.FinMap as finmap
use Rattle.std.specs.FinMap.{same_map, nat_cmp-IsAntisymmetric}
use Rattle.std.specs.Cmp.{nat_cmp_total}
use Rattle.std.proofs.lemmas.Bool.{eq-eqb, eqb-false, cases_lt}
use Rattle.std.proofs.lemmas.Bool.Decides.{eqb_tells}
use Rattle.std.proofs.lemmas.List.{get_or-set_same, get_or-set_other, length-map, get_or-map, map-set, length-replicate, get_or_past, get_or_append_left, length_push, map-append, take_more}
use Rattle.std.proofs.lemmas.List.Sorted.{IsPermutation-map, list_any-IsPermutation}
use Rattle.std.proofs.lemmas.Map.Keys.{IsDistinct-IsPermutation, IsDistinct-cons, IsDistinct-from_apart, IsDistinct-head, IsDistinct-tail}
use Rattle.tb_pages.specs.declared.shard.Entry.{Entry}
use Rattle.tb_pages.specs.declared.book.TheConstants.{SHARDS}
use Rattle.tb_pages.specs.Books.{AreApart, AreLists, AreShards, AreSorted, HoldSame, InOwnShards, Rise, Sets, book_of, held_in}
use Rattle.tb_pages.proofs.Tests.{flip}
use Rattle.tb_pages.proofs.ShardLemmas.{none_parts}
use Rattle.tb_pages.proofs.BookLemmas.{apart_at, apart_none_in, book_after, get_at, shards_after}

-- ---- one more entry
held_more : (b : Bool) (x : Entry) (new old : Option Entry) (c : Bool) (e : Entry) → (b ≡ true → c ≡ false) → new ≡ cond c (Some e) old → cond b (Some x) new ≡ cond c (Some e) (cond b (Some x) old)
held_more true x new old c e off more = rw (off refl) refl
held_more false x new old c e off more = more

pub held-push : (es : List Entry) (e : Entry) → held_in es e.person ≡ None → Sets es (es ++ e ∷ []) e
held-push [] e none = λ q. refl
held-push (x ∷ xs) e none = λ q.
    let h = none_parts (eqb e.person x.person) x (held_in xs e.person) none in
    held_more (eqb q x.person) x (held_in (xs ++ e ∷ []) q) (held_in xs q) (eqb q e.person) e
    (λ t. elim (eqb_tells q x.person) [
      | inl s ↦ ap (λ n. eqb n e.person) s.1 ∙ flip x.person e.person ∙ h.0
      | inr s ↦ cc
    ])
    (held-push xs e h.1 q)

apart_first : (b : Bool) (o : Option Entry) (e : Entry) → b ≡ false → o ≡ None → cond b (Some e) o ≡ None
apart_first true o e off none = cc
apart_first false o e off none = none

pub apart-push : (es : List Entry) (e : Entry) → AreApart es → held_in es e.person ≡ None → AreApart (es ++ e ∷ [])
apart-push [] e apart none = (refl, tt)
apart-push (x ∷ xs) e apart none =
    let h = none_parts (eqb e.person x.person) x (held_in xs e.person) none in
    (held-push xs e h.1 x.person ∙ apart_first (eqb x.person e.person) (held_in xs x.person) e (flip x.person e.person ∙ h.0) apart.0, apart-push xs e apart.1 h.1)

-- ---- lists of entries
pub lists_after : (ss : List (List Entry)) (new : List Entry) (e : Entry) → AreLists ss → e.person % SHARDS < SHARDS
    → held_in (get_or ss (e.person % SHARDS) []) e.person ≡ None → new ≡ get_or ss (e.person % SHARDS) [] ++ e ∷ [] → AreLists (set ss (e.person % SHARDS) new)
lists_after ss new e are below none is =
    let k = e.person % SHARDS in
    let old = get_or ss k [] in
    let sets : Sets old new e = subst (λ es. Sets old es e) (sym is) (held-push old e none) in
    let all = are.shards.all in record {
      shards = shards_after ss new e are.shards sets;
      apart = λ j. elim (eqb_tells j k) [
        | inl h ↦ subst AreApart (sym (ap (λ n. get_or (set ss k new) n []) h.1 ∙ get_or-set_same ss k new [] (omega arith) ∙ is)) (apart-push old e (are.apart k) none)
        | inr h ↦ subst AreApart (sym (get_or-set_other ss k j new [] h.1)) (are.apart j)
      ];
    }

pub none_lists : (n : ℕ) → n ≡ SHARDS → AreLists (replicate n [])
none_lists n all = record {
  shards = record { all = length-replicate n [] ∙ all; own = apart_none_in 0 n };
  apart = λ k. none_at_all n k;
}
  where
    none_at_all : (n k : ℕ) → AreApart (get_or (replicate n []) k [])
    none_at_all zero k = tt
    none_at_all (suc n) zero = tt
    none_at_all (suc n) (suc k) = none_at_all n k

-- a list that is seen as lists
module _ {X : Type 0} (v : X → List Entry) (items : List X) (old new : X) (e : Entry) (are : AreLists (map v items)) (below : e.person % SHARDS < SHARDS)
    (is : old ≡ get_or items (e.person % SHARDS) old) (none : finmap.get (book_of (map v items)) e.person ≡ None) (pushed : v new ≡ v old ++ e ∷ []) where
  here : get_or (map v items) (e.person % SHARDS) [] ≡ v old
  here =
      let long : length items ≡ SHARDS = sym (length-map items v) ∙ are.shards.all in
      get_or-map v items (e.person % SHARDS) old [] (omega arith) ∙ ap v (sym is)

  none_here : held_in (get_or (map v items) (e.person % SHARDS) []) e.person ≡ None
  none_here = sym (get_at (map v items) e.person are.shards) ∙ none

  pub lists_seen_after : AreLists (map v (set items (e.person % SHARDS) new))
  lists_seen_after =
      subst AreLists (sym (map-set v items (e.person % SHARDS) new))
      (lists_after (map v items) (v new) e are below none_here (pushed ∙ ap (λ es. es ++ e ∷ []) (sym here)))

  pub lists_book_after : book_of (map v (set items (e.person % SHARDS) new)) ≡ finmap.insert (book_of (map v items)) e.person e
  lists_book_after =
      ap book_of (map-set v items (e.person % SHARDS) new)
      ∙ book_after (map v items) (v new) e are.shards
      (subst (λ es. Sets (get_or (map v items) (e.person % SHARDS) []) es e) (sym (pushed ∙ ap (λ es. es ++ e ∷ []) (sym here))) (held-push (get_or (map v items) (e.person % SHARDS) []) e none_here))

-- ---- a sort
none_at : (es : List Entry) (p k : ℕ) (d : Entry) → held_in es p ≡ None → k < length es → eqb p (get_or es k d).person ≡ false
none_at [] p k d none within = absurd (omega arith)
none_at (x ∷ xs) p zero d none within = (none_parts (eqb p x.person) x (held_in xs p) none).0
none_at (x ∷ xs) p (suc k) d none within = none_at xs p k d (none_parts (eqb p x.person) x (held_in xs p) none).1 (omega arith)

differ : (es : List Entry) (i j : ℕ) (d : Entry) → AreApart es → i < j → j < length es → eqb (get_or es i d).person (get_or es j d).person ≡ false
differ [] i j d apart low within = absurd (omega arith)
differ (x ∷ xs) i zero d apart low within = absurd (omega arith)
differ (x ∷ xs) zero (suc j) d apart low within = none_at xs x.person j d apart.0 (omega arith)
differ (x ∷ xs) (suc i) (suc j) d apart low within = differ xs i j d apart.1 (omega arith) (omega arith)

pub rise-sorted : (es : List Entry) → AreApart es → IsNonDecreasingBy (λ (e : Entry). e.person) es → Rise es
rise-sorted es apart up = λ i j d low within.
    let le = up i j d (omega arith) within in
    elim (cases_lt (get_or es i d).person (get_or es j d).person) [
      | inl h ↦ h
      | inr h ↦
          let same : (get_or es i d).person ≡ (get_or es j d).person = omega arith in
          absurd (eqb-false (get_or es i d).person (get_or es j d).person (differ es i j d apart low within) same)
    ]

all_other : (es : List Entry) (p : ℕ) → held_in es p ≡ None → AllByRecursion (λ y. eqb p y ≡ false) (map (λ (e : Entry). e.person) es)
all_other [] p none = tt
all_other (x ∷ xs) p none = let h = none_parts (eqb p x.person) x (held_in xs p) none in (h.0, all_other xs p h.1)

none_held : (es : List Entry) (p : ℕ) → AllByRecursion (λ y. eqb p y ≡ false) (map (λ (e : Entry). e.person) es) → held_in es p ≡ None
none_held [] p all = refl
none_held (x ∷ xs) p all = rw all.0 (none_held xs p all.1)

distinct_persons : (es : List Entry) → AreApart es → IsDistinct eqb (map (λ (e : Entry). e.person) es)
distinct_persons [] apart = IsDistinct-from_apart eqb [] (λ i j d low within. absurd (omega arith))
distinct_persons (x ∷ xs) apart = IsDistinct-cons eqb x.person (map (λ (e : Entry). e.person) xs) (all_other xs x.person apart.0) (distinct_persons xs apart.1)

apart_persons : (es : List Entry) → IsDistinct eqb (map (λ (e : Entry). e.person) es) → AreApart es
apart_persons [] d = tt
apart_persons (x ∷ xs) d =
    let ks = map (λ (e : Entry). e.person) xs in
    (none_held xs x.person (IsDistinct-head eqb x.person ks d), apart_persons xs (IsDistinct-tail eqb x.person ks d))

pub apart-sorted : (xs ys : List Entry) → IsPermutation xs ys → AreApart xs → AreApart ys
apart-sorted xs ys p apart =
    apart_persons ys (IsDistinct-IsPermutation eqb flip (map (λ (e : Entry). e.person) xs) (map (λ (e : Entry). e.person) ys) (IsPermutation-map (λ (e : Entry). e.person) xs ys p) (distinct_persons xs apart))

abbrev pub same_page : Option ℕ → Option ℕ → Bool
same_page None None = true
same_page None (Some k) = false
same_page (Some j) None = false
same_page (Some j) (Some k) = eqb j k

abbrev pub same_entry : Entry → Entry → Bool
same_entry x y = eqb x.person y.person && (eqb x.key y.key && same_page x.page y.page)

both : (a b : Bool) → (a && b) ≡ true → (a ≡ true) × (b ≡ true)
both true b is = (refl, is)
both false b is = cc

eqb_is : (a b : ℕ) → eqb a b ≡ true → a ≡ b
eqb_is a b is = elim (eqb_tells a b) [ inl h ↦ h.1 | inr h ↦ cc ]

page_is : (p q : Option ℕ) → same_page p q ≡ true → p ≡ q
page_is None None is = refl
page_is None (Some k) is = cc
page_is (Some j) None is = cc
page_is (Some j) (Some k) is = ap Some (eqb_is j k is)

page_self : (p : Option ℕ) → same_page p p ≡ true
page_self None = refl
page_self (Some k) = eq-eqb k k refl

fields_are : (a b k l : ℕ) (p q : Option ℕ) → a ≡ b → k ≡ l → p ≡ q → ◌≡◌ {A = Entry} (record { person = a; key = k; page = p }) (record { person = b; key = l; page = q })
fields_are a b k l p q e f g = rw (e, f, g) refl

entry_is : (x y : Entry) → same_entry x y ≡ true → x ≡ y
entry_is x y is =
    let h = both (eqb x.person y.person) (eqb x.key y.key && same_page x.page y.page) is in
    let m = both (eqb x.key y.key) (same_page x.page y.page) h.1 in
    fields_are x.person y.person x.key y.key x.page y.page (eqb_is x.person y.person h.0) (eqb_is x.key y.key m.0) (page_is x.page y.page m.1)

entry_self : (x : Entry) → same_entry x x ≡ true
entry_self x = rw (eq-eqb x.person x.person refl, eq-eqb x.key x.key refl, page_self x.page) refl

only_first : (b c : Bool) → c ≡ false → (b || c) ≡ b
only_first true c off = refl
only_first false c off = off

-- whether a person's entry passes a test
any_held : (t : Entry → Bool) (q : ℕ) (es : List Entry) → AreApart es → list_any (λ e. eqb q e.person && t e) es ≡ option_map_or t (held_in es q) false
any_held t q [] apart = refl
any_held t q (x ∷ xs) apart =
    elim (eqb_tells q x.person) [
      | inl h ↦
          let none : held_in xs q ≡ None = ap (held_in xs) h.1 ∙ apart.0 in
          rw h.0 (only_first (t x) (list_any (λ e. eqb q e.person && t e) xs) (any_held t q xs apart.1 ∙ ap (λ o. option_map_or t o false) none))
      | inr h ↦ rw h.0 (any_held t q xs apart.1)
    ]

-- what every test tells alike is the same
told : (a b : Option Entry) → ((t : Entry → Bool) → option_map_or t a false ≡ option_map_or t b false) → a ≡ b
told None None h = refl
told None (Some y) h = let bad : false ≡ true = h (λ _. true) in cc
told (Some x) None h = let bad : true ≡ false = h (λ _. true) in cc
told (Some x) (Some y) h = ap Some (entry_is x y (sym (h (same_entry x)) ∙ entry_self x))

pub held-sorted : (xs ys : List Entry) → IsPermutation xs ys → AreApart xs → HoldSame xs ys
held-sorted xs ys p apart = λ q.
    told (held_in ys q) (held_in xs q) (λ t. sym (any_held t q ys (apart-sorted xs ys p apart)) ∙ sym (list_any-IsPermutation (λ e. eqb q e.person && t e) xs ys p) ∙ any_held t q xs apart)

-- ---- shards of lists
pub none_sorted : AreSorted [] []
none_sorted = record { long = refl; same = λ k q. refl }

sorted_at : (xs ys : List (List Entry)) (x y : List Entry) → AreSorted xs ys → HoldSame x y → (k : ℕ) → HoldSame (get_or (xs ++ x ∷ []) k []) (get_or (ys ++ y ∷ []) k [])
sorted_at xs ys x y are here k =
    let long = are.long in
    elim (cases_lt k (length xs)) [
      | inl h ↦ λ q. ap (λ s. held_in s q) (get_or_append_left ys (y ∷ []) [] k (omega arith)) ∙ are.same k q ∙ sym (ap (λ s. held_in s q) (get_or_append_left xs (x ∷ []) [] k h))
      | inr h ↦ elim (cases_lt (length xs) k) [
        | inl past ↦
            let a : get_or (xs ++ x ∷ []) k [] ≡ [] = get_or_past (xs ++ x ∷ []) k [] (let n = length_push xs x in omega arith) in
            let b : get_or (ys ++ y ∷ []) k [] ≡ [] = get_or_past (ys ++ y ∷ []) k [] (let n = length_push ys y in omega arith) in
            λ q. ap (λ s. held_in s q) (b ∙ sym a)
        | inr low ↦
            let at : k ≡ length xs = omega arith in
            let at' : k ≡ length ys = omega arith in
            let a : get_or (xs ++ x ∷ []) k [] ≡ x = ap (λ n. get_or (xs ++ x ∷ []) n []) at ∙ at_end xs x in
            let b : get_or (ys ++ y ∷ []) k [] ≡ y = ap (λ n. get_or (ys ++ y ∷ []) n []) at' ∙ at_end ys y in
            λ q. ap (λ s. held_in s q) b ∙ here q ∙ sym (ap (λ s. held_in s q) a)
      ]
    ]
  where
    at_end : (xs : List (List Entry)) (x : List Entry) → get_or (xs ++ x ∷ []) (length xs) [] ≡ x
    at_end [] x = refl
    at_end (y ∷ ys) x = at_end ys x

pub one_sorted : (xs ys : List (List Entry)) (x y : List Entry) → AreSorted xs ys → HoldSame x y → AreSorted (xs ++ x ∷ []) (ys ++ y ∷ [])
one_sorted xs ys x y are here = record {
  long = length_push ys y ∙ ap (λ n. n + 1) are.long ∙ sym (length_push xs x);
  same = sorted_at xs ys x y are here;
}

own_from : (j : ℕ) (ss : List (List Entry)) → ((k q : ℕ) → is_some (held_in (get_or ss k []) q) ≡ true → q % SHARDS ≡ j + k) → InOwnShards j ss
own_from j [] own = tt
own_from j (s ∷ ss) own = ((λ q is. own 0 q is ∙ (omega arith)), own_from (suc j) ss (λ k q is. own (suc k) q is ∙ (omega arith)))

pub sorted_shards : (lists shards : List (List Entry)) → AreSorted lists shards → AreShards lists → AreShards shards
sorted_shards lists shards sorted are = record {
  all = sorted.long ∙ are.all;
  own = own_from 0 shards (λ k q is. apart_at 0 k lists q are.own (ap is_some (sym (sorted.same k q)) ∙ is));
}

pub sorted_book : (lists shards : List (List Entry)) → AreSorted lists shards → AreShards lists → book_of shards ≡ book_of lists
sorted_book lists shards sorted are = same_map nat_cmp_total nat_cmp-IsAntisymmetric (book_of shards) (book_of lists) (λ q.
    get_at shards q (sorted_shards lists shards sorted are) ∙ sorted.same (q % SHARDS) q ∙ sym (get_at lists q are))

-- ---- lists and shards that are seen
pub list_apart : {X : Type 0} (v : X → List Entry) (items : List X) (k : ℕ) (x : X) → AreLists (map v items) → k < length items → x ≡ get_or items k x → AreApart (v x)
list_apart v items k x are within is = subst AreApart (get_or-map v items k x [] within ∙ ap v (sym is)) (are.apart k)

pub one_sorted_more : {X Y : Type 0} (v : X → List Entry) (w : Y → List Entry) (xs : List X) (ys after : List Y) (x : X) (y : Y) → AreSorted (map v xs) (map w ys) → HoldSame (v x) (w y)
    → after ≡ ys ++ y ∷ [] → AreSorted (map v (xs ++ x ∷ [])) (map w after)
one_sorted_more v w xs ys after x y are here pushed =
    subst (λ (ls : List (List Entry)). AreSorted ls (map w after)) (sym (map-append v xs (x ∷ [])))
    (subst (λ (ss : List (List Entry)). AreSorted (map v xs ++ v x ∷ []) ss) (sym (ap (map w) pushed ∙ map-append w ys (y ∷ []))) (one_sorted (map v xs) (map w ys) (v x) (w y) are here))

-- the first of a list, one more
pub further : {X : Type 0} (yielded all : List X) (one : X) → yielded ≡ take (length yielded) all → (length yielded < length all) × (one ≡ get_or all (length yielded) one)
    → yielded ++ one ∷ [] ≡ take (length yielded + 1) all
further yielded all one so_far next =
    ap (λ rs. rs ++ one ∷ []) so_far ∙ ap (λ r. take (length yielded) all ++ r ∷ []) next.1 ∙ sym (take_more all (length yielded) one next.0)
