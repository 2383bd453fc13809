-- What a caller knows of a cube that holds some records.
use Rattle.std.proofs.Common.{◌≡◌, ℕ, ◌+◌, ◌<◌, ◌≤◌, Bool, true, Option, Some, None, List, [], ◌∷◌, ◌++◌, length, length-append, length-take, length-drop, map, take, drop, get_or, refl, ap, sym, subst, ◌∙◌, inl, inr, arith}
use Rattle.std.specs.Prelude.{bytes_eq, All}
use Rattle.std.specs.List.{filter, zip, sum_by}
use Rattle.std.specs.Option.{ForSome, option_to_list}
use Rattle.std.proofs.lemmas.Bool.{cases_lt, eq-eqb}
use Rattle.std.proofs.lemmas.List.{drop_more, get_or_default, get_or_past, take-append-drop}
use Rattle.tb_base.specs.declared.cells.Cell.{Cell}
use Rattle.tb_base.specs.declared.people.TheConstants.{MOST_PERSONS}
use Rattle.tb_base.specs.declared.records.Record.{Record}
use Rattle.tb_base.specs.Cells.{cell_of, empty_cell}
use Rattle.tb_base.specs.Records.{category_at, Fits}
use Rattle.tb_base.proofs.CellLemmas.{count-le-length, cell_of-filter_insert_yes}
use Rattle.tb_model.specs.Cubes.{category_lists, cube_of}
use Rattle.tb_model.proofs.CubeLemmas.{merged_where-cube_of}
use Rattle.tb_cube.specs.Cubes.{place_of, taken_out, CubeValue, CanPutIn, CanTakeOut, HasRoom, Holds}
use Rattle.tb_cube.proofs.Grid.{all-fit, length-lists, one-fits, place-below, place-test}
use Rattle.tb_cube.proofs.Changes.{held-taken}
use Rattle.tb_cube.proofs.Adding.{get_or-cube_of, length-cube_of}

-- each cell counts at most all of the records
pub count-held : (cube : CubeValue) (rs : List Record) (k : ℕ) (d : Cell) → Holds cube rs → k < length cube.cells → (get_or cube.cells k d).count ≤ length rs
count-held cube rs k d held below =
    let inside : k < length (category_lists cube.shape cube.vars) = omega (arith, below, ap length held, length-cube_of cube.shape cube.vars rs) in
    let here : get_or cube.cells k d ≡ cell_of (filter (λ r. bytes_eq (map (category_at r) cube.vars) (get_or (category_lists cube.shape cube.vars) k [])) rs) =
    get_or_default cube.cells k d empty_cell below ∙ ap (λ cells. get_or cells k empty_cell) held ∙ get_or-cube_of cube.shape cube.vars rs k [] inside in
    rw here (count-le-length (λ r. bytes_eq (map (category_at r) cube.vars) (get_or (category_lists cube.shape cube.vars) k [])) rs)

-- so there is room for a piece
pub room-held : (cube : CubeValue) (rs : List Record) (more : ℕ) → Holds cube rs → length rs + more ≤ MOST_PERSONS → All (λ (c : Cell). c.count + more ≤ MOST_PERSONS) cube.cells
room-held cube rs more held few k d below = omega (arith, count-held cube rs k d held below)

-- and for another cube
long-held : (cube : CubeValue) (rs : List Record) → Holds cube rs → length cube.cells ≡ length (category_lists cube.shape cube.vars)
long-held cube rs held = ap length held ∙ length-cube_of cube.shape cube.vars rs

pub room-both : (a b : CubeValue) (ours theirs : List Record) → b.shape ≡ a.shape → b.vars ≡ a.vars → Holds a ours → Holds b theirs → length ours + length theirs ≤ MOST_PERSONS → HasRoom a b
room-both a b ours theirs shape vars held held' few place d below =
    let lists : length (category_lists b.shape b.vars) ≡ length (category_lists a.shape a.vars) = ap (λ s. length (category_lists s b.vars)) shape ∙ ap (λ vs. length (category_lists a.shape vs)) vars in
    let low : place < length b.cells = omega (arith, below, long-held a ours held, long-held b theirs held', lists) in
    omega (arith, count-held a ours place d held below, count-held b theirs place d held' low)

-- a record that fits may be put in where there are fewer records than the most
pub can-put-in : (cube : CubeValue) (rs : List Record) (r : Record) → Fits cube.shape r → Holds cube rs → length rs < MOST_PERSONS → CanPutIn cube r
can-put-in cube rs r fits held few =
    let n : ℕ = place_of cube.shape cube.vars (category_at r) in
    record {
      fits = fits;
      room = elim (cases_lt n (length cube.cells)) [
        | inl h ↦ omega (arith, count-held cube rs n empty_cell held h)
        | inr h ↦
            let none : (get_or cube.cells n empty_cell).count ≡ 0 = ap (λ (c : Cell). c.count) (get_or_past cube.cells n empty_cell h) in
            omega (arith, few, none)
      ];
    }

-- so it is once another record is out
pub can-put-after : (cube : CubeValue) (gone : Option Record) (new : Record) (first rest : List Record) → ForSome gone (CanTakeOut cube) → Fits cube.shape new
    → Holds cube (first ++ (option_to_list gone ++ rest)) → length (first ++ rest) < MOST_PERSONS → CanPutIn (taken_out gone cube) new
can-put-after cube None new first rest can fits held few = can-put-in cube (first ++ rest) new fits held few
can-put-after cube (Some r) new first rest can fits held few = can-put-in (taken_out (Some r) cube) (first ++ rest) new fits (held-taken cube (Some r) first rest can held) few

-- a record that is held may be taken out
pub can-take-out : (cube : CubeValue) (first rest : List Record) (r : Record) → All (λ v. v < length cube.shape) cube.vars → Fits cube.shape r → Holds cube (first ++ r ∷ rest) → CanTakeOut cube r
can-take-out cube first rest r there fits held =
    let n : ℕ = place_of cube.shape cube.vars (category_at r) in
    let lists : List (List ℕ) = category_lists cube.shape cube.vars in
    let p : Record → Bool = λ x. bytes_eq (map (category_at x) cube.vars) (get_or lists n []) in
    let below = one-fits cube.shape cube.vars r there fits in
    let inside : n < length lists = omega (arith, place-below cube.shape cube.vars (category_at r) below, length-lists cube.shape cube.vars) in
    let passes : p r ≡ true = place-test cube.shape cube.vars r n [] below inside ∙ eq-eqb n n refl in
    let here : get_or cube.cells n empty_cell ≡ cell_of (filter p (first ++ r ∷ rest)) = ap (λ cells. get_or cells n empty_cell) held ∙ get_or-cube_of cube.shape cube.vars (first ++ r ∷ rest) n [] inside in
    record {
      fits = fits;
      counted = omega (arith, ap (λ (c : Cell). c.count) (here ∙ cell_of-filter_insert_yes p first rest r passes));
    }

-- the counts of all cells add up to the number of records
all-pairs : {X : Type 0} (xs : List X) (cells : List Cell) → length xs ≡ length cells → map (λ (q : X × Cell). q.1) (filter (λ (_ : X × Cell). true) (zip xs cells)) ≡ cells
all-pairs [] [] e = refl
all-pairs [] (c ∷ cells) e = absurd (omega (arith, e))
all-pairs (x ∷ xs) [] e = absurd (omega (arith, e))
all-pairs (x ∷ xs) (c ∷ cells) e = ap (λ cs. c ∷ cs) (all-pairs xs cells (omega (arith, e)))

all-pass : (rs : List Record) → filter (λ (_ : Record). true) rs ≡ rs
all-pass [] = refl
all-pass (r ∷ rs) = ap (λ xs. r ∷ xs) (all-pass rs)

pub counts-held : (cube : CubeValue) (rs : List Record) → All (λ v. v < length cube.shape) cube.vars → All (Fits cube.shape) rs → Holds cube rs → sum_by (λ c. c.count) cube.cells ≡ length rs
counts-held cube rs there fit held =
    let lists : List (List ℕ) = category_lists cube.shape cube.vars in
    let law = merged_where-cube_of (λ _. true) cube.shape cube.vars rs (all-fit cube.shape cube.vars rs there fit) (λ _. refl) in
    let pairs = all-pairs lists (cube_of cube.shape cube.vars rs) (sym (length-cube_of cube.shape cube.vars rs)) in
    ap (λ cells. sum_by (λ (c : Cell). c.count) cells) (held ∙ sym pairs)
    ∙ ap (λ (c : Cell). c.count) law ∙ ap length (all-pass rs)

-- a list around one of its elements
pub around : (rs : List Record) (i : ℕ) (r : Record) → i < length rs → r ≡ get_or rs i r → rs ≡ take i rs ++ r ∷ drop (i + 1) rs
around rs i r below is = sym (take-append-drop i rs) ∙ ap (λ xs. take i rs ++ xs) (drop_more rs i r below ∙ ap (λ x. x ∷ drop (i + 1) rs) (sym is))

-- of some value, what holds of it
pub of-some : {X : Type 0} (P : X → Type 0) (x : X) → P x → ForSome (Some x) P
of-some P x p = λ y is. let same : x ≡ y = cc in subst P same p

-- a record that is held at a place may be taken out, and another put in
pub can-take-at : (cube : CubeValue) (rs : List Record) (i : ℕ) (r : Record) → All (λ v. v < length cube.shape) cube.vars → All (Fits cube.shape) rs → Holds cube rs → i < length rs → r ≡ get_or rs i r → ForSome (Some r) (CanTakeOut cube)
can-take-at cube rs i r there fit held below is =
    let fits : Fits cube.shape r = subst (Fits cube.shape) (sym is) (fit i r below) in
    of-some (CanTakeOut cube) r (can-take-out cube (take i rs) (drop (i + 1) rs) r there fits (held ∙ ap (cube_of cube.shape cube.vars) (around rs i r below is)))

pub can-put-at : (cube : CubeValue) (rs : List Record) (i : ℕ) (r new : Record) → All (λ v. v < length cube.shape) cube.vars → All (Fits cube.shape) rs → Holds cube rs → i < length rs → r ≡ get_or rs i r
    → Fits cube.shape new → length rs ≤ MOST_PERSONS → ForSome (Some new) (CanPutIn (taken_out (Some r) cube))
can-put-at cube rs i r new there fit held below is fits few =
    let fewer : length (take i rs ++ drop (i + 1) rs) < MOST_PERSONS = omega (arith, length-append (take i rs) (drop (i + 1) rs), length-take i rs, length-drop (i + 1) rs) in
    of-some (CanPutIn (taken_out (Some r) cube)) new
    (can-put-after cube (Some r) new (take i rs) (drop (i + 1) rs) (can-take-at cube rs i r there fit held below is) fits (held ∙ ap (cube_of cube.shape cube.vars) (around rs i r below is)) fewer)
