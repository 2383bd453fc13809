-- A key book of shards.
use Rattle.std.proofs.Common.{◌≡◌, ◌≢◌, ℕ, zero, suc, ◌+◌, ◌%◌, ◌<◌, Bool, true, false, cond, eqb, List, [], ◌∷◌, ◌++◌, map, length, get_or, set, replicate, refl, sym, ap, ◌∙◌, subst, inl, inr, arith}
use Rattle.std.specs.Prelude.{Option, Some, None, is_some, Result, Ok, Err, OnOk, OnErr}
use Rattle.std.specs.Option.{option_map, option_map_or}
use Rattle.std.specs.FinMap as finmap
use Rattle.std.specs.FinMap.{find, get-from_entries, get-entries, get-insert, same_map, nat_cmp-IsAntisymmetric}
use Rattle.std.specs.Ordering.{nat_cmp, is_eq}
use Rattle.std.specs.Cmp.{nat_cmp_total}
use Rattle.std.proofs.lemmas.Bool.{ne_eqb}
use Rattle.std.proofs.lemmas.Bool.Decides.{eqb_tells}
use Rattle.std.proofs.lemmas.List.{get_or-set_same, get_or-set_other, length-set, length-map, get_or-map, map-set, set-get_or}
use Rattle.tb_pages.proofs.Tests.{is_eq-nat_cmp, get-book_insert}
use Rattle.tb_pages.specs.declared.shard.Entry.{Entry}
use Rattle.tb_pages.specs.declared.book.TheConstants.{SHARDS}
use Rattle.tb_pages.specs.Books.{Book, Sets, held_in, entries_in, book_of, InOwnShards, AreShards, keys_in, page_in}

-- ---- a person in several lists
pub held-append : (xs ys : List Entry) (q : ℕ) → held_in xs q ≡ None → held_in (xs ++ ys) q ≡ held_in ys q
held-append [] ys q none = refl
held-append (x ∷ xs) ys q none = held_later (eqb q x.person) x xs ys q none (held-append xs ys q)
  where
    held_later : (b : Bool) (x : Entry) (xs ys : List Entry) (q : ℕ) → cond b (Some x) (held_in xs q) ≡ None → (held_in xs q ≡ None → held_in (xs ++ ys) q ≡ held_in ys q) → cond b (Some x) (held_in (xs ++ ys) q) ≡ held_in ys q
    held_later true x xs ys q none more = cc
    held_later false x xs ys q none more = more none

held-first : (xs ys : List Entry) (q : ℕ) → held_in ys q ≡ None → held_in (xs ++ ys) q ≡ held_in xs q
held-first [] ys q none = none
held-first (x ∷ xs) ys q none = ap (λ o. cond (eqb q x.person) (Some x) o) (held-first xs ys q none)

nothing : (o : Option Entry) → is_some o ≡ false → o ≡ None
nothing None e = refl
nothing (Some x) e = cc

apart_none : (b : Bool) (o : Option Entry) (m n : ℕ) → is_some o ≡ b → (b ≡ true → m ≡ n) → m ≢ n → o ≡ None
apart_none true o m n is same apart = absurd (apart (same refl))
apart_none false o m n is same apart = nothing o is

-- whoever belongs to an earlier shard isn't in the later ones
none_later : (j : ℕ) (ss : List (List Entry)) (q : ℕ) → InOwnShards j ss → q % SHARDS < j → held_in (entries_in ss) q ≡ None
none_later j [] q apart low = refl
none_later j (s ∷ ss) q apart low =
    let here : held_in s q ≡ None = apart_none (is_some (held_in s q)) (held_in s q) (q % SHARDS) j refl (apart.0 q) (λ same. omega (arith, same, low)) in
    held-append s (entries_in ss) q here ∙ none_later (suc j) ss q apart.1 (omega arith)

-- a person is looked for in one shard
pub in_shard : (j k : ℕ) (ss : List (List Entry)) (q : ℕ) → InOwnShards j ss → j + k ≡ q % SHARDS → held_in (entries_in ss) q ≡ held_in (get_or ss k []) q
in_shard j k [] q apart at = refl
in_shard j zero (s ∷ ss) q apart at = held-first s (entries_in ss) q (none_later (suc j) ss q apart.1 (omega (arith, at)))
in_shard j (suc k) (s ∷ ss) q apart at =
    let here : held_in s q ≡ None = apart_none (is_some (held_in s q)) (held_in s q) (q % SHARDS) j refl (apart.0 q) (λ same. omega (arith, same, at)) in
    held-append s (entries_in ss) q here ∙ in_shard (suc j) k ss q apart.1 (omega (arith, at))

pub apart_at : (j k : ℕ) (ss : List (List Entry)) (q : ℕ) → InOwnShards j ss → is_some (held_in (get_or ss k []) q) ≡ true → q % SHARDS ≡ j + k
apart_at j k [] q apart is = cc
apart_at j zero (s ∷ ss) q apart is = apart.0 q is ∙ (omega arith)
apart_at j (suc k) (s ∷ ss) q apart is = apart_at (suc j) k ss q apart.1 is ∙ (omega arith)

pub apart-set : (j k : ℕ) (ss : List (List Entry)) (new : List Entry) → InOwnShards j ss → ((q : ℕ) → is_some (held_in new q) ≡ true → q % SHARDS ≡ j + k) → InOwnShards j (set ss k new)
apart-set j k [] new apart own = tt
apart-set j zero (s ∷ ss) new apart own = ((λ q is. own q is ∙ (omega arith)), apart.1)
apart-set j (suc k) (s ∷ ss) new apart own = (apart.0, apart-set (suc j) k ss new apart.1 (λ q is. own q is ∙ (omega arith)))

-- ---- the map
find-held : (es : List Entry) (q : ℕ) → find nat_cmp q (map (λ (e : Entry). (e.person, e)) es) ≡ held_in es q
find-held [] q = refl
find-held (e ∷ es) q = ap (λ b. cond b (Some e) (find nat_cmp q (map (λ (e : Entry). (e.person, e)) es))) (is_eq-nat_cmp q e.person) ∙ ap (λ o. cond (eqb q e.person) (Some e) o) (find-held es q)

pub get-book_of : (ss : List (List Entry)) (q : ℕ) → finmap.get (book_of ss) q ≡ held_in (entries_in ss) q
get-book_of ss q = get-from_entries nat_cmp_total (map (λ (e : Entry). (e.person, e)) (entries_in ss)) q ∙ find-held (entries_in ss) q

pub get_at : (ss : List (List Entry)) (q : ℕ) → AreShards ss → finmap.get (book_of ss) q ≡ held_in (get_or ss (q % SHARDS) []) q
get_at ss q are = get-book_of ss q ∙ in_shard 0 (q % SHARDS) ss q are.own (omega arith)

pub get-set_entry : (book : Book) (e : Entry) (q : ℕ) → finmap.get (finmap.insert book e.person e) q ≡ cond (eqb q e.person) (Some e) (finmap.get book q)
get-set_entry book e q = get-insert nat_cmp_total book e.person e q ∙ ap (λ b. cond b (Some e) (finmap.get book q)) (is_eq-nat_cmp q e.person)

-- one shard's person changes
own_after : (b : Bool) (e : Entry) (o : Option Entry) (m n : ℕ) → is_some (cond b (Some e) o) ≡ true → (b ≡ true → m ≡ n) → (is_some o ≡ true → m ≡ n) → m ≡ n
own_after true e o m n is here there = here refl
own_after false e o m n is here there = there is

pub shards_after : (ss : List (List Entry)) (new : List Entry) (e : Entry) → AreShards ss → Sets (get_or ss (e.person % SHARDS) []) new e → AreShards (set ss (e.person % SHARDS) new)
shards_after ss new e are sets =
    let k = e.person % SHARDS in record {
      all = length-set ss k new ∙ are.all;
      own = apart-set 0 k ss new are.own (λ q is.
          own_after (eqb q e.person) e (held_in (get_or ss k []) q) (q % SHARDS) (0 + k) (ap is_some (sym (sets q)) ∙ is)
          (λ t. elim (eqb_tells q e.person) [ inl h ↦ ap (λ n. n % SHARDS) h.1 ∙ (omega arith) | inr h ↦ cc ])
          (λ there. apart_at 0 k ss q are.own there));
    }

pub book_after : (ss : List (List Entry)) (new : List Entry) (e : Entry) → AreShards ss → Sets (get_or ss (e.person % SHARDS) []) new e
    → book_of (set ss (e.person % SHARDS) new) ≡ finmap.insert (book_of ss) e.person e
book_after ss new e are sets =
    let k = e.person % SHARDS in
    let after = shards_after ss new e are sets in
    let within : k < length ss = let all = are.all in omega arith in
    same_map nat_cmp_total nat_cmp-IsAntisymmetric (book_of (set ss k new)) (finmap.insert (book_of ss) e.person e) (λ q.
    get_at (set ss k new) q after ∙ elim (eqb_tells (q % SHARDS) k) as (λ _. held_in (get_or (set ss k new) (q % SHARDS) []) q ≡ cond (eqb q e.person) (Some e) (held_in (get_or ss (q % SHARDS) []) q)) [
      | inl h ↦ ap (λ n. held_in (get_or (set ss k new) n []) q) h.1 ∙ ap (λ s. held_in s q) (get_or-set_same ss k new [] within) ∙ sets q
          ∙ ap (λ n. cond (eqb q e.person) (Some e) (held_in (get_or ss n []) q)) (sym h.1)
      | inr h ↦
          let off : q ≢ e.person = (λ same. h.1 (ap (λ n. n % SHARDS) same)) in
          ap (λ s. held_in s q) (get_or-set_other ss k (q % SHARDS) new [] h.1) ∙ ap (λ b. cond b (Some e) (held_in (get_or ss (q % SHARDS) []) q)) (sym (ne_eqb q e.person off))
    ] ∙ ap (λ o. cond (eqb q e.person) (Some e) o) (sym (get_at ss q are)) ∙ sym (get-set_entry (book_of ss) e q))

-- empty shards
pub none_in : (n : ℕ) → entries_in (replicate n []) ≡ []
none_in zero = refl
none_in (suc n) = none_in n

pub apart_none_in : (j n : ℕ) → InOwnShards j (replicate n [])
apart_none_in j zero = tt
apart_none_in j (suc n) = ((λ q is. cc), apart_none_in (suc j) n)

-- ---- the keys
find-keys : (es : List (ℕ × Entry)) (q : ℕ) → find nat_cmp q (map (λ (e : ℕ × Entry). (e.0, e.1.key)) es) ≡ option_map (λ (e : Entry). e.key) (find nat_cmp q es)
find-keys [] q = refl
find-keys (e ∷ es) q = elim (is_eq (nat_cmp q e.0)) as (λ b. cond b (Some e.1.key) (find nat_cmp q (map (λ (e : ℕ × Entry). (e.0, e.1.key)) es)) ≡ option_map (λ (e : Entry). e.key) (cond b (Some e.1) (find nat_cmp q es))) [
  | true ↦ refl
  | false ↦ find-keys es q
]

pub get-keys_in : (book : Book) (q : ℕ) → finmap.get (keys_in book) q ≡ option_map (λ (e : Entry). e.key) (finmap.get book q)
get-keys_in book q =
    get-from_entries nat_cmp_total (map (λ (e : ℕ × Entry). (e.0, e.1.key)) (finmap.entries book)) q
    ∙ find-keys (finmap.entries book) q ∙ ap (option_map (λ (e : Entry). e.key)) (sym (get-entries book q))

key_after : (b : Bool) (e : Entry) (o : Option Entry) → option_map (λ (e : Entry). e.key) (cond b (Some e) o) ≡ cond b (Some e.key) (option_map (λ (e : Entry). e.key) o)
key_after true e o = refl
key_after false e o = refl

-- a person's key enters with the entry
pub keys_in-set : (book : Book) (e : Entry) → keys_in (finmap.insert book e.person e) ≡ finmap.insert (keys_in book) e.person e.key
keys_in-set book e = same_map nat_cmp_total nat_cmp-IsAntisymmetric (keys_in (finmap.insert book e.person e)) (finmap.insert (keys_in book) e.person e.key) (λ q.
    get-keys_in (finmap.insert book e.person e) q ∙ ap (option_map (λ (e : Entry). e.key)) (get-set_entry book e q) ∙ key_after (eqb q e.person) e (finmap.get book q)
    ∙ ap (λ o. cond (eqb q e.person) (Some e.key) o) (sym (get-keys_in book q)) ∙ sym (get-book_insert (keys_in book) e.person e.key q))

same_at : (person : ℕ) (key : ℕ) (o : Option ℕ) (q : ℕ) (get : ℕ → Option ℕ) → get person ≡ Some key → cond (eqb q person) (Some key) (get q) ≡ get q
same_at person key o q get is = elim (eqb_tells q person) [
  | inl h ↦ rw h.0 (sym is ∙ ap get (sym h.1))
  | inr h ↦ rw h.0 refl
]

-- no key changes where the entry has the key that is there
pub keys_in-same : (book : Book) (e old : Entry) → finmap.get book e.person ≡ Some old → old.key ≡ e.key → keys_in (finmap.insert book e.person e) ≡ keys_in book
keys_in-same book e old is same = keys_in-set book e ∙ same_map nat_cmp_total nat_cmp-IsAntisymmetric (finmap.insert (keys_in book) e.person e.key) (keys_in book) (λ q.
    get-book_insert (keys_in book) e.person e.key q
    ∙ same_at e.person e.key None q (λ p. finmap.get (keys_in book) p) (get-keys_in book e.person ∙ ap (option_map (λ (e : Entry). e.key)) is ∙ ap Some same))

page_after : (b : Bool) (e : Entry) (o : Option Entry) → option_map_or (λ (e : Entry). e.page) (cond b (Some e) o) None ≡ cond b e.page (option_map_or (λ (e : Entry). e.page) o None)
page_after true e o = refl
page_after false e o = refl

pub page_in-set : (book : Book) (e : Entry) (q : ℕ) → page_in (finmap.insert book e.person e) q ≡ cond (eqb q e.person) e.page (page_in book q)
page_in-set book e q = ap (λ o. option_map_or (λ (e : Entry). e.page) o None) (get-set_entry book e q) ∙ page_after (eqb q e.person) e (finmap.get book q)

some_page : (o : Option Entry) (k : ℕ) → option_map_or (λ (e : Entry). e.page) o None ≡ Some k → is_some o ≡ true
some_page None k is = cc
some_page (Some e) k is = refl

-- whoever has a page has an entry
pub has_entry : (book : Book) (q k : ℕ) → page_in book q ≡ Some k → is_some (finmap.get book q) ≡ true
has_entry book q k is = some_page (finmap.get book q) k is

pub empty_book : (n : ℕ) → book_of (replicate n []) ≡ finmap.empty
empty_book n = ap (λ es. finmap.from_entries (map (λ (e : Entry). (e.person, e)) es)) (none_in n)

-- ---- a list that is seen as shards
pub shard_seen : {X : Type 0} (v : X → List Entry) (items : List X) (k : ℕ) (x : X) → AreShards (map v items) → k < SHARDS → x ≡ get_or items k x → get_or (map v items) k [] ≡ v x
shard_seen v items k x are below is =
    let long : length items ≡ SHARDS = sym (length-map items v) ∙ are.all in
    get_or-map v items k x [] (omega arith) ∙ ap v (sym is)

pub shards_seen_after : {X : Type 0} (v : X → List Entry) (items : List X) (old new : X) (e : Entry) → AreShards (map v items) → e.person % SHARDS < SHARDS → old ≡ get_or items (e.person % SHARDS) old
    → Sets (v old) (v new) e → AreShards (map v (set items (e.person % SHARDS) new))
shards_seen_after v items old new e are below is sets =
    let k = e.person % SHARDS in
    let sets_here : Sets (get_or (map v items) k []) (v new) e = subst (λ (s : List Entry). Sets s (v new) e) (sym (shard_seen v items k old are below is)) sets in
    subst AreShards (sym (map-set v items k new)) (shards_after (map v items) (v new) e are sets_here)

pub book_seen_after : {X : Type 0} (v : X → List Entry) (items : List X) (book : Book) (old new : X) (e : Entry) → AreShards (map v items) → book_of (map v items) ≡ book → e.person % SHARDS < SHARDS
    → old ≡ get_or items (e.person % SHARDS) old → Sets (v old) (v new) e → book_of (map v (set items (e.person % SHARDS) new)) ≡ finmap.insert book e.person e
book_seen_after v items book old new e are seen below is sets =
    let k = e.person % SHARDS in
    let sets_here : Sets (get_or (map v items) k []) (v new) e = subst (λ (s : List Entry). Sets s (v new) e) (sym (shard_seen v items k old are below is)) sets in
    ap book_of (map-set v items k new) ∙ book_after (map v items) (v new) e are sets_here ∙ ap (λ b. finmap.insert b e.person e) seen

-- the same where nothing changed
pub same_shards : {X : Type 0} (v : X → List Entry) (items : List X) (k : ℕ) (old new : X) → k < length items → old ≡ get_or items k old → v new ≡ v old → map v (set items k new) ≡ map v items
same_shards v items k old new within is same =
    map-set v items k new ∙ ap (λ s. set (map v items) k s) (same ∙ ap v is ∙ sym (get_or-map v items k old [] within)) ∙ set-get_or (map v items) k []

pub either_way : {T E P Q R : Type 0} (r : Result T E) → OnOk r P → OnErr r Q → (P → R) → (Q → R) → R
either_way (Ok x) p q f g = f p
either_way (Err e) p q f g = g q
