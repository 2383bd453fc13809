-- One more line leaves recodes that are being read sound, and puts one more category into a group.
use Rattle.std.proofs.Common.{◌≡◌, ◌∙◌, ap, sym, subst, refl, ℕ, ◌+◌, ◌<◌, ◌≤◌, true, false, cond, List, [], ◌∷◌, ◌++◌, length, get_or, Option, Some, None, Result, Ok, Err, IfSome, append-nil, append_assoc, length-append, arith, inl, inr, nat_eq, is_some}
use Rattle.std.specs.Prelude.{bytes_eq, nat_le, slice_set}
use Rattle.std.specs.List.{IsDistinct}
use Rattle.std.proofs.lemmas.Bool.{cases_Bool}
use Rattle.std.proofs.lemmas.Bool.Decides.{nat_tests}
use Rattle.std.proofs.lemmas.List.{length-map, length-replicate, length-set, map-append}
use Rattle.std.proofs.lemmas.List.Elements.{All-get_or, All-nil, All-push, All-replicate, All-set, All-weaker}
use Rattle.std.proofs.lemmas.List.Sums.{count_by-le-length, sum_by-le, sum_by-set, sum_by_push}
use Rattle.std.proofs.lemmas.List.Folds.{sum_by-replicate}
use Rattle.std.proofs.Math.Seq.{map-set_same}
use Rattle.tb_rows.specs.Formats.{and_then}
use Rattle.tb_model.specs.Schemas.{CategoryValue, SchemaValue, VariableValue}
use Rattle.tb_schema.specs.Groupings.{GroupingValue, no_groups, with_code, with_group, with_member}
use Rattle.tb_schema.specs.Names.{category_codes, recode_names, no_variable, place_in, variable_names, nth_variable}
use Rattle.tb_schema.specs.Partial.{ArePartial, IsGrouping, IsPartialOf, member_count, record_count}
use Rattle.tb_schema.specs.Recodes.{PartialRecode, PartialValue, RecodeLine, and_recode, at_recode, at_variable, no_recode, partial_names, with_line, with_recode}
use Rattle.tb_schema.specs.Sound.{IsSound, IsVariable}
use Rattle.tb_schema.specs.Spelling.{is_code}
use Rattle.tb_schema.specs.declared.fault.SchemaKind.{SchemaKind}
use Rattle.tb_schema.specs.declared.limits.TheConstants.{MOST_CATEGORIES, MOST_RECODES}
use Rattle.tb_schema.proofs.Distinct.{absent, absent-both, distinct-front, distinct-push, place-below}
use Rattle.tb_schema.proofs.Orders.{above}

pub then-ok : {A B : Type 0} (r : Result A SchemaKind) (next : A → Result B SchemaKind) (y : B) → and_then r next ≡ Ok y → (x : A) × (r ≡ Ok x) × (next x ≡ Ok y)
then-ok (Ok x) next y h = (x, refl, h)
then-ok (Err e) next y h = cc

equal : (n m : ℕ) → nat_eq n m ≡ true → n ≡ m
equal n m h = grind (arith, nat_tests)

none : {A : Type 0} (o : Option A) → is_some o ≡ false → o ≡ None
none None h = refl
none (Some x) h = cc

one : Option ℕ → ℕ
one o = cond (is_some o) 1 0

-- groups with one more, which are so many at least
record Grows (groups : List (List ℕ)) (into : List (List ℕ) × ℕ) : Type 0 where
  codes : IsDistinct bytes_eq into.0
  inside : into.1 < length into.0
  least : length groups ≤ length into.0
  most : length into.0 ≤ length groups + 1

grows : (groups : List (List ℕ)) (group : List ℕ) (o : Option ℕ) → place_in groups group ≡ o → IsDistinct bytes_eq groups → Grows groups (with_group groups group o)
grows groups group None p d = record {
  codes = distinct-push groups group d (absent groups group p);
  inside = omega (arith, length-append groups (group ∷ []));
  least = omega (arith, length-append groups (group ∷ []));
  most = omega (arith, length-append groups (group ∷ []));
}
grows groups group (Some g) p d = record { codes = d; inside = place-below groups group g p; least = omega arith; most = omega arith }

-- an element below one number is below a greater one
wider : (n m : ℕ) → n ≤ m → (o : Option ℕ) → IfSome o (λ g. g < n) → IfSome o (λ g. g < m)
wider n m h None i = tt
wider n m h (Some g) i = omega (arith, i)

-- groups with one more member
pub record Placed (n : ℕ) (before after : GroupingValue) : Type 0 where
  pub grouping : IsGrouping n after
  pub some : 1 ≤ length after.groups
  pub count : member_count after ≡ member_count before + 1

placed-into : (n : ℕ) (grouping : GroupingValue) (category : ℕ) (into : List (List ℕ) × ℕ) → IsGrouping n grouping → category < n → get_or grouping.group_of category None ≡ None
    → Grows grouping.groups into → Placed n grouping (with_member grouping category into)
unfolding one
placed-into n grouping category into s c free g =
    let inside : category < length grouping.group_of = omega (arith, s.total) in
    let sum = sum_by-set one grouping.group_of category (Some into.1) None inside in
    let zero : one (get_or grouping.group_of category None) ≡ 0 = ap one free in
    let count : member_count (with_member grouping category into) ≡ member_count grouping + 1 = omega (arith, sum, zero) in
    let below : ℕ → Option ℕ → Type 0 = λ m o. IfSome o (λ k. k < m) in
    record {
      grouping = record {
        total = length-set grouping.group_of category (Some into.1) ∙ s.total;
        groups = All-set (below (length into.0)) grouping.group_of category (Some into.1) g.inside
            (All-weaker (below (length grouping.groups)) (below (length into.0)) (wider (length grouping.groups) (length into.0) g.least) grouping.group_of s.groups);
        codes = g.codes;
        few = omega (arith, s.few, g.most, count);
      };
      some = omega (arith, g.inside);
      count = count;
    }

pub placed : (n : ℕ) (before after : GroupingValue) (group : List ℕ) (category : ℕ) → IsGrouping n before → category < n → with_code before group (Some category) ≡ Ok after → Placed n before after
placed n before after group category s c h = elim (cases_Bool (is_some (get_or before.group_of category None))) [
  | inl t ↦ let e = rw t at h in cc
  | inr t ↦ let g = rw t at h in elim (cases_Bool (is_code group)) [
    | inr u ↦ let e = rw u at g in cc
    | inl u ↦
        let e = rw u at g in
        let into = with_group before.groups group (place_in before.groups group) in
        let same : with_member before category into ≡ after = cc in
        subst (Placed n before) same (placed-into n before category into s c (none (get_or before.group_of category None) t) (grows before.groups group (place_in before.groups group) refl s.codes))
  ]
]

-- no groups yet
pub empty : (n : ℕ) → IsGrouping n (no_groups n)
unfolding IsDistinct
empty n = record {
  total = length-replicate n None;
  groups = All-replicate (λ (o : Option ℕ). IfSome o (λ g. g < 0)) n None tt;
  codes = tt;
  few = omega arith;
}

-- with a line's code
line-at : (v : VariableValue) (before after : GroupingValue) (line : RecodeLine) (o : Option ℕ) → place_in (category_codes v) line.code ≡ o → IsGrouping (length v.categories) before → with_code before line.group o ≡ Ok after
    → Placed (length v.categories) before after
line-at v before after line None p s h = cc
line-at v before after line (Some c) p s h =
    placed (length v.categories) before after line.group c s (omega (arith, place-below (category_codes v) line.code c p, length-map v.categories (λ (c : CategoryValue). c.code))) h

placed-line : (v : VariableValue) (before after : GroupingValue) (line : RecodeLine) → IsGrouping (length v.categories) before → with_line v before line ≡ Ok after → Placed (length v.categories) before after
placed-line v before after line s h = line-at v before after line (place_in (category_codes v) line.code) refl s h

-- recodes with one more record
pub record Kept (before after : PartialValue) : Type 0 where
  pub known : ArePartial after
  pub count : record_count after ≡ record_count before + 1

abbrev members : PartialRecode → ℕ
members r = member_count r.grouping

no-members : (n : ℕ) → member_count (no_groups n) ≡ 0
unfolding one
no-members n = omega (arith, sum_by-replicate one n None)

-- a record of a new recode
new : (before : PartialValue) (r : PartialRecode) (rs : List PartialRecode) → ArePartial before → place_in (variable_names before.variables) r.name ≡ None → place_in (partial_names before.recodes) r.name ≡ None
    → r.variable < length before.variables → Placed (length (nth_variable before.variables r.variable).categories) (no_groups (length (nth_variable before.variables r.variable).categories)) r.grouping
    → with_recode before.recodes r ≡ Ok rs → Kept before (record before { recodes = rs })
new before r rs s p q inside placed h = elim (cases_Bool (nat_le MOST_RECODES (length before.recodes))) [
  | inl t ↦ let e = rw t at h in cc
  | inr t ↦
      let e = rw t at h in
      let room = above MOST_RECODES (length before.recodes) t in
      let vs = variable_names before.variables in
      let same : before.recodes ++ r ∷ [] ≡ rs = cc in
      let all : variable_names before.variables ++ partial_names (before.recodes ++ r ∷ []) ≡ (vs ++ partial_names before.recodes) ++ r.name ∷ []
      = ap (λ ns. vs ++ ns) (map-append (λ (r : PartialRecode). r.name) before.recodes (r ∷ [])) ∙ sym (append_assoc vs (partial_names before.recodes) (r.name ∷ [])) in
      subst (λ rs. Kept before (record before { recodes = rs })) same (record {
        known = record {
          names = subst (IsDistinct bytes_eq) (sym all)
              (distinct-push (vs ++ partial_names before.recodes) r.name s.names (absent-both vs (partial_names before.recodes) r.name (absent vs r.name p) (absent (partial_names before.recodes) r.name q)));
          few = omega (arith, room, length-append before.recodes (r ∷ []));
          variables = s.variables;
          recodes = All-push (IsPartialOf before.variables) before.recodes r s.recodes (record { variable = inside; grouping = placed.grouping; some = placed.some });
        };
        count = omega (arith, sum_by_push members before.recodes r, placed.count, no-members (length (nth_variable before.variables r.variable).categories));
      })
]

-- a record of the recode of number i
old : (before : PartialValue) (i : ℕ) (grouping : GroupingValue) → ArePartial before → i < length before.recodes
    → Placed (length (nth_variable before.variables (get_or before.recodes i no_recode).variable).categories) (get_or before.recodes i no_recode).grouping grouping
    → Kept before (record before { recodes = slice_set before.recodes i (record (get_or before.recodes i no_recode) { grouping = grouping }) })
old before i grouping s inside placed =
    let r = get_or before.recodes i no_recode in
    let w : PartialRecode = record r { grouping = grouping } in
    let is : IsPartialOf before.variables r = All-get_or (IsPartialOf before.variables) before.recodes i no_recode inside s.recodes in
    let sum = sum_by-set members before.recodes i w no_recode inside in
    record {
      known = record {
        names = subst (λ ns. IsDistinct bytes_eq (variable_names before.variables ++ ns)) (sym (map-set_same (λ (r : PartialRecode). r.name) before.recodes i w no_recode refl)) s.names;
        few = omega (arith, s.few, length-set before.recodes i w);
        variables = s.variables;
        recodes = All-set (IsPartialOf before.variables) before.recodes i w (record { variable = is.variable; grouping = placed.grouping; some = placed.some }) s.recodes;
      };
      count = omega (arith, sum, placed.count);
    }

kept-at : (n : ℕ) (before : PartialValue) (line : RecodeLine) (v : ℕ) (rs : List PartialRecode) (o : Option ℕ) → ArePartial before → v < length before.variables → place_in (variable_names before.variables) line.name ≡ None
    → place_in (partial_names before.recodes) line.name ≡ o → at_recode before n line v o ≡ Ok rs → Kept before (record before { recodes = rs })
kept-at n before line v rs None s inside p q h =
    let variable = nth_variable before.variables v in
    let (grouping, with, pushed) = then-ok (with_line variable (no_groups (length variable.categories)) line) (λ g. with_recode before.recodes (record { name = line.name; variable = v; grouping = g; first = n })) rs h in
    new before (record { name = line.name; variable = v; grouping = grouping; first = n }) rs s p q inside (placed-line variable (no_groups (length variable.categories)) grouping line (empty (length variable.categories)) with) pushed
kept-at n before line v rs (Some i) s inside p q h =
    let r = get_or before.recodes i no_recode in
    let variable = nth_variable before.variables v in
    let there : i < length before.recodes = omega (arith, place-below (partial_names before.recodes) line.name i q, length-map before.recodes (λ (r : PartialRecode). r.name)) in
    elim (cases_Bool (nat_eq r.variable v)) [
      | inr t ↦ let e = rw t at h in cc
      | inl t ↦
          let g = rw t at h in
          let same : r.variable ≡ v = equal r.variable v t in
          let is : IsPartialOf before.variables r = All-get_or (IsPartialOf before.variables) before.recodes i no_recode there s.recodes in
          let (grouping, with, written) = then-ok (with_line variable r.grouping line) (λ g. Ok (slice_set before.recodes i (record r { grouping = g }))) rs g in
          let own : IsGrouping (length variable.categories) r.grouping = subst (λ u. IsGrouping (length (nth_variable before.variables u).categories) r.grouping) same is.grouping in
          let placed = placed-line variable r.grouping grouping line own with in
          let is_rs : slice_set before.recodes i (record r { grouping = grouping }) ≡ rs = cc in
          subst (λ rs. Kept before (record before { recodes = rs })) is_rs
          (old before i grouping s there (subst (λ u. Placed (length (nth_variable before.variables u).categories) r.grouping grouping) (sym same) placed))
    ]

kept-variable : (n : ℕ) (before : PartialValue) (line : RecodeLine) (rs : List PartialRecode) (o : Option ℕ) → place_in (variable_names before.variables) line.variable ≡ o → ArePartial before → at_variable before n line o ≡ Ok rs
    → Kept before (record before { recodes = rs })
kept-variable n before line rs None p s h = cc
kept-variable n before line rs (Some v) p s h = elim (cases_Bool (is_some (place_in (variable_names before.variables) line.name))) [
  | inl t ↦ let e = rw t at h in cc
  | inr t ↦
      kept-at n before line v rs (place_in (partial_names before.recodes) line.name) s (omega (arith, place-below (variable_names before.variables) line.variable v p, length-map before.variables (λ (v : VariableValue). v.name)))
      (none (place_in (variable_names before.variables) line.name) t) refl (rw t at h)
]

pub kept : (n : ℕ) (before after : PartialValue) (line : RecodeLine) → ArePartial before → and_recode n before line ≡ Ok after → Kept before after
kept n before after line s h =
    let o = place_in (variable_names before.variables) line.variable in
    let (rs, there, is) = then-ok (at_variable before n line o) (λ rs. Ok (record before { recodes = rs })) after h in
    let same : record before { recodes = rs } ≡ after = cc in
    subst (Kept before) same (kept-variable n before line rs o refl s there)

-- the variables stay
pub kept-variables : (n : ℕ) (before after : PartialValue) (line : RecodeLine) → and_recode n before line ≡ Ok after → after.variables ≡ before.variables
kept-variables n before after line h =
    let o = place_in (variable_names before.variables) line.variable in
    let (rs, there, is) = then-ok (at_variable before n line o) (λ rs. Ok (record before { recodes = rs })) after h in
    let same : record before { recodes = rs } ≡ after = cc in
    sym (ap (λ (p : PartialValue). p.variables) same)

-- before the first record
pub nothing-read : (schema : SchemaValue) → IsSound schema → ArePartial (record { variables = schema.variables; recodes = [] })
nothing-read schema s = record {
  names = subst (IsDistinct bytes_eq) (sym (append-nil (variable_names schema.variables))) (distinct-front (variable_names schema.variables) (recode_names schema.recodes) s.names);
  few = omega arith;
  variables = s.variables;
  recodes = All-nil (IsPartialOf schema.variables);
}

-- there are not too many records
members-few : (before : PartialValue) → ArePartial before → (r : PartialRecode) → IsPartialOf before.variables r → members r ≤ MOST_CATEGORIES
members-few before s r is =
    let v : IsVariable (nth_variable before.variables r.variable) = All-get_or IsVariable before.variables r.variable no_variable is.variable s.variables in
    omega (arith, count_by-le-length is_some r.grouping.group_of, is.grouping.total, v.few)

pub record_count-few : (before : PartialValue) → ArePartial before → record_count before < 4294967295
record_count-few before s =
    omega (arith, sum_by-le members MOST_CATEGORIES before.recodes (All-weaker (IsPartialOf before.variables) (λ r. members r ≤ MOST_CATEGORIES) (members-few before s) before.recodes s.recodes), s.few)

pub groups-few : (before : PartialValue) → ArePartial before → (r : PartialRecode) → IsPartialOf before.variables r → length r.grouping.groups ≤ MOST_CATEGORIES
groups-few before s r is = omega (arith, members-few before s r is, is.grouping.few)
