-- Cells to which tallies are added, part by part, and records that are put in by tallies of chunks.
use Rattle.std.proofs.Common.{◌≡◌, ℕ, ◌+◌, ◌%◌, ◌<◌, ◌≤◌, Bool, true, false, cond, List, [], ◌∷◌, ◌++◌, length, map, get_or, set, refl, ap, sym, subst, ◌∙◌, inl, inr, arith}
use Rattle.std.specs.Prelude.{All, ◌==◌, nat_lt}
use Rattle.std.specs.List.{sum, sum_by, AllByRecursion}
use Rattle.std.proofs.Math.Nat.{mod-mod, add-mod-mod}
use Rattle.std.proofs.lemmas.Nat.{mod_below}
use Rattle.std.proofs.lemmas.List.{get_or-set_same, get_or-set_other}
use Rattle.std.proofs.lemmas.Bool.{lt-ltb, le-ltb, cases_lt}
use Rattle.std.proofs.lemmas.Bool.Decides.{eqb_tells}
use Rattle.std.proofs.lemmas.List.Elements.{All-from_recursion, recursion_from_All}
use Rattle.std.proofs.lemmas.List.Sums.{sum_by-cons, sum_by-append}
use Rattle.tb_base.specs.declared.cells.Cell.{Cell}
use Rattle.tb_base.specs.declared.keys.TheConstants.{MOST_KEYS}
use Rattle.tb_base.specs.declared.records.Record.{Record}
use Rattle.tb_base.specs.Cells.{IsReduced}
use Rattle.tb_base.specs.Parts.{modulus, part, part_at, weight, Part}
use Rattle.tb_base.specs.Parts.Part.{counts, keys}
use Rattle.tb_base.specs.Tallies.{tallied_at, keys_at, tally_of, AreTallied}
use Rattle.tb_base.proofs.PartLemmas.{add-more, added-at}
use Rattle.tb_base.proofs.LaneSums.{keys-cons}

ones : (xs : List ℕ) → length xs ≡ sum_by (weight counts) xs
ones [] = refl
ones (x ∷ xs) = omega (arith, ones xs, sum_by-cons (weight counts) x xs)

-- the parts of a tally
tally-part : (p : Part) (place : ℕ) (xs ks : List ℕ) → part p (tally_of place xs ks) % modulus p ≡ tallied_at p place xs ks % modulus p
tally-part counts place xs ks = ap (λ n. n % modulus counts) (ones (keys_at place xs ks))
tally-part keys place xs ks = mod-mod (sum (keys_at place xs ks)) (modulus keys)

-- the cells below a number are tallied; that one is next
next-one : (x : ℕ → ℕ) (place i : ℕ) → cond (nat_lt i place) (x i) 0 + cond (place == i) (x place) 0 ≡ cond (nat_lt i (place + 1)) (x i) 0
next-one x place i =
    elim (eqb_tells place i) [
      | inl h ↦
          let here : cond (nat_lt i place) (x i) 0 ≡ 0 = ap (λ b. cond b (x i) 0) (le-ltb i place (omega (arith, h.1))) in
          let now : cond (nat_lt i (place + 1)) (x i) 0 ≡ x i = ap (λ b. cond b (x i) 0) (lt-ltb i (place + 1) (omega (arith, h.1))) in
          rw (h.0, here, now, h.1) (omega arith)
      | inr h ↦ elim (cases_lt i place) [
        | inl low ↦ rw (h.0, lt-ltb i place low, lt-ltb i (place + 1) (omega (arith, low))) (omega arith)
        | inr high ↦
            let above : place + 1 ≤ i = omega (arith, high, h.1) in
            rw (h.0, le-ltb i place high, le-ltb i (place + 1) above) refl
      ]
    ]

-- of the cells, those below a number are tallied
abbrev pub TalliedBelow : ℕ → List Cell → List ℕ → List ℕ → List Cell → Type 0
TalliedBelow place old places ks new =
    (p : Part) (i : ℕ) → i < length old
    → part_at p new i % modulus p ≡ (part_at p old i + cond (nat_lt i place) (tallied_at p i places ks) 0) % modulus p

pub none-tallied : (old : List Cell) (places ks : List ℕ) → TalliedBelow 0 old places ks old
none-tallied old places ks p i below =
    let none : cond (nat_lt i 0) (tallied_at p i places ks) 0 ≡ 0 = ap (λ b. cond b (tallied_at p i places ks) 0) (le-ltb i 0 (omega arith)) in
    let same : part_at p old i ≡ part_at p old i + cond (nat_lt i 0) (tallied_at p i places ks) 0 = omega (arith, none) in
    ap (λ n. n % modulus p) same

pub one-tallied : (place : ℕ) (old cells : List Cell) (places ks : List ℕ) (more new : Cell) → length cells ≡ length old → place < length old
    → more ≡ tally_of place places ks → ((p : Part) → part p new ≡ (part_at p cells place + part p more) % modulus p)
    → TalliedBelow place old places ks cells → TalliedBelow (place + 1) old places ks (set cells place new)
one-tallied place old cells places ks more new long there made parts before p i below =
    let x : ℕ → ℕ = λ k. tallied_at p k places ks in
    let here : part p new % modulus p ≡ (part_at p cells place + x place) % modulus p =
    ap (λ n. n % modulus p) (parts p)
    ∙ mod-mod (part_at p cells place + part p more) (modulus p)
    ∙ sym (add-mod-mod (part_at p cells place) (part p more) (modulus p))
    ∙ ap (λ n. (part_at p cells place + n) % modulus p) (ap (λ (c : Cell). part p c % modulus p) made ∙ tally-part p place places ks)
    ∙ add-mod-mod (part_at p cells place) (x place) (modulus p) in
    add-more (modulus p) (part_at p old i) (part_at p cells i) (part_at p (set cells place new) i) (cond (nat_lt i place) (x i) 0) (cond (place == i) (x place) 0)
    (before p i below) (added-at p cells place i new (x place) (omega (arith, there, long)) here)
    ∙ ap (λ n. (part_at p old i + n) % modulus p) (next-one x place i)

pub all-tallied : (old new : List Cell) (places ks : List ℕ) (place : ℕ) → length old ≤ place → TalliedBelow place old places ks new → AreTallied old places ks new
all-tallied old new places ks place done before p i below =
    before p i below ∙ ap (λ b. (part_at p old i + cond b (tallied_at p i places ks) 0) % modulus p) (lt-ltb i place (omega (arith, below, done)))

-- the cells below a number have key sums below the largest key range, and so has that one
pub one-reduced : (place : ℕ) (cells : List Cell) (new : Cell) (sum : ℕ) → place < length cells → new.key ≡ sum % MOST_KEYS
    → ((i : ℕ) (d : Cell) → i < place → IsReduced (get_or cells i d)) → (i : ℕ) (d : Cell) → i < place + 1 → IsReduced (get_or (set cells place new) i d)
one-reduced place cells new sum there is before i d below =
    elim (eqb_tells i place) [
      | inl h ↦ rw (h.1, get_or-set_same cells place new d there, is) (mod_below sum MOST_KEYS (omega arith))
      | inr h ↦ rw (get_or-set_other cells place i new d h.1) (before i d (omega (arith, below, h.1)))
    ]

-- what records add at a place
abbrev pub at_place : (Record → ℕ) → Part → List Record → ℕ → ℕ
at_place place p records i = sum_by (λ r. cond (place r == i) (weight p r.key) 0) records

-- so it is with columns that are written from records
weigh-step : (place : Record → ℕ) (p : Part) (i : ℕ) (r : Record) (rs : List Record) → tallied_at p i (map place rs) (map (λ (q : Record). q.key) rs) ≡ at_place place p rs i → (b : Bool) → (place r == i) ≡ b
    → tallied_at p i (map place (r ∷ rs)) (map (λ (q : Record). q.key) (r ∷ rs)) ≡ cond b (weight p r.key) 0 + at_place place p rs i
weigh-step place p i r rs rest true h =
    let ks : List ℕ = map (λ (q : Record). q.key) rs in
    ap (sum_by (weight p)) (keys-cons i (place r) r.key (map place rs) ks true h) ∙ sum_by-cons (weight p) r.key (keys_at i (map place rs) ks) ∙ ap (λ s. weight p r.key + s) rest
weigh-step place p i r rs rest false h =
    ap (sum_by (weight p)) (keys-cons i (place r) r.key (map place rs) (map (λ (q : Record). q.key) rs) false h) ∙ rest ∙ omega arith

weigh : (place : Record → ℕ) (p : Part) (i : ℕ) (rs : List Record) → tallied_at p i (map place rs) (map (λ (q : Record). q.key) rs) ≡ at_place place p rs i
weigh place p i [] = refl
weigh place p i (r ∷ rs) = weigh-step place p i r rs (weigh place p i rs) (place r == i) refl ∙ sym (sum_by-cons (λ (q : Record). cond (place q == i) (weight p q.key) 0) r rs)

-- the new cells are the old ones with these records
abbrev pub ArePutBy : (Record → ℕ) → List Cell → List Record → List Cell → Type 0
ArePutBy place old records new =
    (p : Part) (i : ℕ) → i < length old
    → part_at p new i % modulus p ≡ (part_at p old i + at_place place p records i) % modulus p

pub none-put : (place : Record → ℕ) (cells : List Cell) → ArePutBy place cells [] cells
none-put place cells p i below = let same : part_at p cells i ≡ part_at p cells i + 0 = omega arith in ap (λ n. n % modulus p) same

-- one more chunk is put in
pub chunk-put : (place : Record → ℕ) (start cells new : List Cell) (done chunk : List Record) (places ks : List ℕ) → length cells ≡ length start
    → places ≡ map place chunk → ks ≡ map (λ r. r.key) chunk → AreTallied cells places ks new → ArePutBy place start done cells → ArePutBy place start (done ++ chunk) new
chunk-put place start cells new done chunk places ks long are keys_are tallied before p i below =
    let k : ℕ = modulus p in
    let s : ℕ = at_place place p done i in
    let x : ℕ = at_place place p chunk i in
    let now : part_at p new i % k ≡ (part_at p cells i + x) % k =
    tallied p i (omega (arith, below, long))
    ∙ ap (λ n. (part_at p cells i + n) % k) (ap (λ ns. tallied_at p i ns ks) are ∙ ap (tallied_at p i (map place chunk)) keys_are ∙ weigh place p i chunk) in
    add-more k (part_at p start i) (part_at p cells i) (part_at p new i) s x (before p i below) now
    ∙ ap (λ n. (part_at p start i + n) % k) (sym (sum_by-append (λ (r : Record). cond (place r == i) (weight p r.key) 0) done chunk))

-- what holds of all records holds of those of a chunk
pub chunk-fits : (P : Record → Type 0) (done chunk rest all : List Record) → all ≡ done ++ (chunk ++ rest) → All P all → All P chunk
chunk-fits P done chunk rest all parts fit =
    All-from_recursion P chunk (front P chunk rest (back P done (chunk ++ rest) (recursion_from_All P (done ++ (chunk ++ rest)) (subst (All P) parts fit))))
  where
    front : (P : Record → Type 0) (xs ys : List Record) → AllByRecursion P (xs ++ ys) → AllByRecursion P xs
    front P [] ys h = tt
    front P (x ∷ xs) ys h = (h.0, front P xs ys h.1)

    back : (P : Record → Type 0) (xs ys : List Record) → AllByRecursion P (xs ++ ys) → AllByRecursion P ys
    back P [] ys h = h
    back P (x ∷ xs) ys h = back P xs ys h.1
