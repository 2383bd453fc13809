-- Parts of a list of records, and of those that are lent in pieces.
use Rattle.std.proofs.Common.{◌≡◌, ◌∙◌, sym, ap, subst, refl, ℕ, zero, suc, ◌+◌, ◌-◌, ◌*◌, ◌<◌, ◌≤◌, true, List, [], ◌∷◌, ◌++◌, length, length-append, length-take, length-drop, map, take, drop, get_or, append-nil, append_assoc, add-one, inl, inr, arith}
use Rattle.std.specs.Prelude.{All, Result, Ok, Err, IfOk, MatchResult, Contains}
use Rattle.std.specs.List.{AllZip, range_with_len}
use Rattle.std.specs.declared.vec.Vec.{Vec}
use Rattle.std.proofs.lemmas.List.FromFn.{get_or-map-range_with_len, length-map-range_with_len}
use Rattle.std.proofs.lemmas.Bool.{cases_lt}
use Rattle.std.proofs.lemmas.List.{take_all, drop_all, take-append-drop, take-append-le, drop-append-le}
use Rattle.std.proofs.lemmas.List.Elements.{All-take, All-drop}
use Rattle.std.proofs.Math.Seq.{take-append-add, drop-append-add}
use Rattle.tb_base.specs.declared.records.Record.{Record}
use Rattle.tb_base.specs.declared.cells.Cell.{Cell}
use Rattle.tb_base.specs.declared.people.TheConstants.{MOST_PERSONS}
use Rattle.tb_cube.specs.Cubes.{CubeValue, Holds, HasRoom, cube_over, merged_with}
use Rattle.tb_cube.proofs.Holding.{room-held, room-both}
use Rattle.tb_model.specs.Cubes.{cube_of}
use Rattle.tb_model.proofs.CubeLemmas.{cube_of-append}
use Rattle.tb_delta.proofs.Pieces.{pieces-fit}
use Rattle.tb_base.specs.Pieces.{between}
use Rattle.tb_build.specs.Parts.{part_of, records_in}

-- what lies between two places of two lists in a row
pub between-append : {X : Type 0} (a b : ℕ) (xs ys : List X) → between a b (xs ++ ys) ≡ between a b xs ++ between (a - length xs) (b - length xs) ys
between-append {X} a b xs ys =
    elim (cases_lt b (length xs)) [
      | inl h ↦
          let low : b ≤ length xs = omega arith in
          let none : b - length xs ≡ 0 = omega arith in
          rw (take-append-le b xs ys low, none) (sym (ap (λ (zs : List X). drop a (take b xs) ++ zs) (drop_all (a - length xs) [] (omega arith)) ∙ append-nil (drop a (take b xs))))
      | inr h ↦
          let whole : length xs + (b - length xs) ≡ b = omega arith in
          let front : take b (xs ++ ys) ≡ xs ++ take (b - length xs) ys = ap (λ n. take n (xs ++ ys)) (sym whole) ∙ take-append-add xs ys (b - length xs) in
          let all : take b xs ≡ xs = take_all b xs h in
          rw (front, all) (elim (cases_lt a (length xs)) [
            | inl k ↦
                let low : a ≤ length xs = omega arith in
                let none : a - length xs ≡ 0 = omega arith in
                rw (drop-append-le a xs (take (b - length xs) ys) low, none) refl
            | inr k ↦
                let past : length xs + (a - length xs) ≡ a = omega arith in
                ap (λ n. drop n (xs ++ take (b - length xs) ys)) (sym past) ∙ drop-append-add xs (take (b - length xs) ys) (a - length xs)
                ∙ ap (λ (zs : List X). zs ++ drop (a - length xs) (take (b - length xs) ys)) (sym (drop_all a xs k))
          ])
    ]

-- what comes before a place, and what lies from there to another
pub take-between : {X : Type 0} (a b : ℕ) (xs : List X) → a ≤ b → take a xs ++ between a b xs ≡ take b xs
take-between zero b xs h = refl
take-between (suc a) zero xs h = absurd (omega arith)
take-between (suc a) (suc b) [] h = refl
take-between (suc a) (suc b) (x ∷ xs) h = ap (λ ys. x ∷ ys) (take-between a b xs (omega arith))

-- both together are no longer than the list
pub length-parts : {X : Type 0} (a b : ℕ) (xs : List X) → a ≤ b → length (take a xs) + length (between a b xs) ≤ length xs
length-parts {X} a b xs h =
    omega (arith, length-append (take a xs) (between a b xs), ap (λ (ys : List X). length ys) (take-between a b xs h), length-append (take b xs) (drop b xs), ap (λ (ys : List X). length ys) (take-append-drop b xs))

-- no part_of is longer than its list
pub length-between : {X : Type 0} (a b : ℕ) (xs : List X) → length (between a b xs) ≤ length xs
length-between a b xs = omega (arith, length-drop a (take b xs), length-take b xs)

-- a part_of of no element
pub between-none : {X : Type 0} (a b : ℕ) → between a b (let xs : List X = [] in xs) ≡ []
between-none {X} a b = let none : List X = [] in ap (λ (xs : List X). drop a xs) (take_all b none (omega arith)) ∙ drop_all a none (omega arith)

-- the part_of that is the whole
pub between-all : {X : Type 0} (n : ℕ) (xs : List X) → n ≡ length xs → between 0 n xs ≡ xs
between-all n xs h = take_all n xs (omega arith)

-- what holds of each element holds of each in a part_of
pub All-between : {X : Type 0} (P : X → Type 0) (a b : ℕ) (xs : List X) → All P xs → All P (between a b xs)
All-between P a b xs h = All-drop P a (take b xs) (All-take P b xs h)

-- one more piece
records-next : (ps : List (List Record)) (i : ℕ) → i < length ps → records_in (take (suc i) ps) ≡ records_in (take i ps) ++ get_or ps i []
records-next [] i h = absurd (omega arith)
records-next (p ∷ ps) zero h = append-nil p
records-next (p ∷ ps) (suc i) h = ap (λ rs. p ++ rs) (records-next ps i (omega arith)) ∙ sym (append_assoc p (records_in (take i ps)) (get_or ps i []))

pub records-more : (ps : List (List Record)) (i : ℕ) → i < length ps → records_in (take (i + 1) ps) ≡ records_in (take i ps) ++ get_or ps i []
records-more ps i h = ap (λ n. records_in (take n ps)) (add-one i) ∙ records-next ps i h

-- a cube with the records of a list merged in
merged-more : (shape vars : List ℕ) (xs ys : List Record) → merged_with (cube_over shape vars xs) (cube_of shape vars ys) ≡ cube_over shape vars (xs ++ ys)
merged-more shape vars xs ys =
    ap (λ (cells : List Cell). let c : CubeValue = record { shape = shape; vars = vars; cells = cells; dense = true } in c) (sym (cube_of-append shape vars xs ys))

-- the walk over one piece more
pub walked-on : (cube next : CubeValue) (shape vars : List ℕ) (ps : List (List Record)) (i before from to : ℕ) (piece : List Record)
    → i < length ps → piece ≡ get_or ps i [] → before ≡ length (records_in (take i ps)) → cube ≡ cube_over shape vars (between from to (records_in (take i ps)))
    → next ≡ merged_with cube (cube_of cube.shape cube.vars (between (from - before) (to - before) piece))
    → next ≡ cube_over shape vars (between from to (records_in (take (i + 1) ps)))
walked-on cube next shape vars ps i before from to piece below is long so_far new =
    let some : List Record = records_in (take i ps) in
    let P : CubeValue → Type 0 = λ c. next ≡ merged_with c (cube_of c.shape c.vars (between (from - before) (to - before) piece)) in
    let merged : next ≡ merged_with (cube_over shape vars (between from to some)) (cube_of shape vars (between (from - before) (to - before) piece)) = subst P so_far new in
    let parts : between from to (some ++ get_or ps i []) ≡ between from to some ++ between (from - before) (to - before) piece =
    between-append from to some (get_or ps i [])
    ∙ ap (λ n. between from to some ++ between (from - n) (to - n) (get_or ps i [])) (sym long)
    ∙ ap (λ rs. between from to some ++ between (from - before) (to - before) rs) (sym is) in
    merged ∙ merged-more shape vars (between from to some) (between (from - before) (to - before) piece)
    ∙ ap (cube_over shape vars) (sym parts ∙ ap (λ rs. between from to rs) (sym (records-more ps i below)))

-- a cube that is that of some records holds them
pub holds-of : (cube : CubeValue) (shape vars : List ℕ) (rs : List Record) → cube ≡ cube_over shape vars rs → Holds cube rs
holds-of cube shape vars rs is = subst (λ (c : CubeValue). Holds c rs) (sym is) refl

-- there is room for a part_of of a piece
pub room-for : (cube : CubeValue) (shape vars : List ℕ) (ps : List (List Record)) (i before from to : ℕ) (piece : List Record)
    → i < length ps → piece ≡ get_or ps i [] → cube ≡ cube_over shape vars (between from to (records_in (take i ps))) → length (records_in ps) ≤ MOST_PERSONS
    → All (λ (c : Cell). c.count + length (between (from - before) (to - before) piece) ≤ MOST_PERSONS) cube.cells
room-for cube shape vars ps i before from to piece below is so_far few =
    let some : List Record = records_in (take i ps) in
    let all : length some + length (get_or ps i []) ≤ length (records_in ps) = pieces-fit ps i below in
    let here : length piece ≡ length (get_or ps i []) = ap (λ (rs : List Record). length rs) is in
    room-held cube (between from to some) (length (between (from - before) (to - before) piece)) (holds-of cube shape vars (between from to some) so_far)
    (omega (arith, all, here, few, length-between from to some, length-between (from - before) (to - before) piece))

-- the cube of one part_of more
pub merged-on : (cube other next : CubeValue) (shape vars : List ℕ) (rs : List Record) (size i : ℕ)
    → cube ≡ cube_over shape vars (take (i * size) rs) → other ≡ cube_over shape vars (part_of size rs i) → next ≡ merged_with cube other.cells
    → next ≡ cube_over shape vars (take ((i + 1) * size) rs)
merged-on cube other next shape vars rs size i so_far here new =
    let first : next ≡ merged_with (cube_over shape vars (take (i * size) rs)) other.cells = subst (λ (c : CubeValue). next ≡ merged_with c other.cells) so_far new in
    let both : next ≡ merged_with (cube_over shape vars (take (i * size) rs)) (cube_of shape vars (part_of size rs i)) =
    first ∙ ap (λ (c : CubeValue). merged_with (cube_over shape vars (take (i * size) rs)) c.cells) here in
    both ∙ merged-more shape vars (take (i * size) rs) (part_of size rs i) ∙ ap (cube_over shape vars) (take-between (i * size) ((i + 1) * size) rs (omega arith))

-- and there is room for it
pub room-part : (cube other : CubeValue) (shape vars : List ℕ) (rs : List Record) (size i : ℕ)
    → cube ≡ cube_over shape vars (take (i * size) rs) → other ≡ cube_over shape vars (part_of size rs i) → length rs ≤ MOST_PERSONS → HasRoom cube other
room-part cube other shape vars rs size i so_far here few =
    room-both cube other (take (i * size) rs) (part_of size rs i)
    (ap (λ (c : CubeValue). c.shape) here ∙ sym (ap (λ (c : CubeValue). c.shape) so_far))
    (ap (λ (c : CubeValue). c.vars) here ∙ sym (ap (λ (c : CubeValue). c.vars) so_far))
    (holds-of cube shape vars (take (i * size) rs) so_far) (holds-of other shape vars (part_of size rs i) here)
    (let both = length-parts (i * size) ((i + 1) * size) rs (omega arith) in omega (arith, both, few))

-- the cube of a part_of, out of those of all
pub cube-of-part : (cubes : List CubeValue) (other : CubeValue) (shape vars : List ℕ) (rs : List Record) (size i : ℕ) → i < length cubes
    → cubes ≡ map (λ k. cube_over shape vars (part_of size rs k)) (range_with_len 0 (length cubes)) → other ≡ get_or cubes i other → other ≡ cube_over shape vars (part_of size rs i)
cube-of-part cubes other shape vars rs size i below are is =
    is ∙ ap (λ (cs : List CubeValue). get_or cs i other) are ∙ get_or-map-range_with_len (λ k. cube_over shape vars (part_of size rs k)) 0 (length cubes) i i other below (omega arith)

-- results that are all there, each made of its number
ok-results : {C : Type 0} (E : Type 0) (G : ℕ → C) (ks : List ℕ) (ys : List C) → AllZip (λ k (x : Result C E). IfOk x (λ c. c ≡ G k)) ks (map Ok ys) → ys ≡ map G ks
ok-results E G [] [] h = refl
ok-results E G [] (y ∷ ys) h = absurd h
ok-results E G (k ∷ ks) [] h = absurd h
ok-results E G (k ∷ ks) (y ∷ ys) h = ap (λ c. c ∷ ys) h.0 ∙ ap (λ cs. G k ∷ cs) (ok-results E G ks ys h.1)

pub collected : {C E Z : Type 0} (G : ℕ → C) (ks : List ℕ) (xs : List (Result C E)) (r : Result (Vec C Z) E)
    → AllZip (λ k (x : Result C E). IfOk x (λ c. c ≡ G k)) ks xs → MatchResult r (λ v. (ys : List C) × (xs ≡ map Ok ys) × (v.items ≡ ys)) (λ e. Contains xs (Err e))
    → IfOk r (λ v. v.items ≡ map G ks)
collected {C} {E} {Z} G ks xs (Ok v) each h = h.2 ∙ ok-results E G ks h.0 (subst (λ (zs : List (Result C E)). AllZip (λ k (x : Result C E). IfOk x (λ c. c ≡ G k)) ks zs) h.1 each)
collected G ks xs (Err e) each h = tt

-- how many cubes there are
pub cube-count : (cubes items : List CubeValue) (shape vars : List ℕ) (rs : List Record) (size parts : ℕ) → cubes ≡ items → items ≡ map (λ k. cube_over shape vars (part_of size rs k)) (range_with_len 0 parts) → length cubes ≡ parts
cube-count cubes items shape vars rs size parts same are =
    ap (λ (cs : List CubeValue). length cs) (same ∙ are) ∙ length-map-range_with_len (λ k. cube_over shape vars (part_of size rs k)) 0 parts

-- the cubes of all parts, as what merges them into an empty one takes them
pub cut-cubes : (cubes items : List CubeValue) (cube : CubeValue) (shape vars : List ℕ) (rs : List Record) (size parts : ℕ) → cubes ≡ items → items ≡ map (λ k. cube_over shape vars (part_of size rs k)) (range_with_len 0 parts)
    → cube ≡ cube_over shape vars [] → cubes ≡ map (λ k. cube_over cube.shape cube.vars (part_of size rs k)) (range_with_len 0 (length cubes))
cut-cubes cubes items cube shape vars rs size parts same are empty =
    same ∙ are ∙ ap (λ n. map (λ k. cube_over shape vars (part_of size rs k)) (range_with_len 0 n)) (sym (cube-count cubes items shape vars rs size parts same are))
    ∙ ap (λ (c : CubeValue). map (λ k. cube_over c.shape c.vars (part_of size rs k)) (range_with_len 0 (length cubes))) (sym empty)
