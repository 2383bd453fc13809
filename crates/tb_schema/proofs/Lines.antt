-- The variables of lines, and what one more line makes of them.
use Rattle.std.proofs.Common.{◌≡◌, ◌∙◌, ap, sym, subst, refl, ℕ, Bool, true, false, cond, List, [], ◌∷◌, ◌++◌, ◌||◌, length, map, get_or, Some, None, Ok, inl, inr, add_comm, add-one}
use Rattle.std.specs.Prelude.{bytes_eq, nat_le}
use Rattle.std.specs.List.{IsDistinct, list_any, position_or_len}
use Rattle.std.proofs.lemmas.Bool.{cases_Bool}
use Rattle.std.proofs.lemmas.List.Folds.{list_any-append}
use Rattle.tb_base.proofs.Texts.{same_text, text_itself, text_other_way}
use Rattle.tb_model.specs.Schemas.{VariableValue, CategoryValue}
use Rattle.tb_schema.specs.Classes.{ClassLine, and_line, at_number, is_code_of, with_category}
use Rattle.tb_schema.specs.Names.{no_variable}
use Rattle.tb_schema.specs.declared.limits.TheConstants.{MOST_CATEGORIES, MOST_VARIABLES}
use Rattle.tb_schema.proofs.Distinct.{any-place, distinct-push, none-equal, or_true}
use Rattle.tb_schema.specs.WholeFiles.{and_name, names_after, categories_under, variables_in, is_repeat}

-- the names after one more line
pub names-append : (lines : List ClassLine) (names : List (List ℕ)) (line : ClassLine) → names_after names (lines ++ line ∷ []) ≡ and_name (names_after names lines) line.name
names-append [] names line = refl
names-append (l ∷ lines) names line = names-append lines (and_name names l.name) line

-- the categories of a name after one more line
pub categories-own : (lines : List ClassLine) (line : ClassLine) (name : List ℕ) → bytes_eq name line.name ≡ true → categories_under (lines ++ line ∷ []) name ≡ categories_under lines name ++ line.category ∷ []
categories-own [] line name h = rw h refl
categories-own (l ∷ lines) line name h = elim (cases_Bool (bytes_eq name l.name)) [
  | inl t ↦ rw t (ap (λ cs. l.category ∷ cs) (categories-own lines line name h))
  | inr t ↦ rw t (categories-own lines line name h)
]

pub categories-other : (lines : List ClassLine) (line : ClassLine) (name : List ℕ) → bytes_eq name line.name ≡ false → categories_under (lines ++ line ∷ []) name ≡ categories_under lines name
categories-other [] line name h = rw h refl
categories-other (l ∷ lines) line name h = elim (cases_Bool (bytes_eq name l.name)) [
  | inl t ↦ rw t (ap (λ cs. l.category ∷ cs) (categories-other lines line name h))
  | inr t ↦ rw t (categories-other lines line name h)
]

first_no : (a b : Bool) → (a || b) ≡ false → (a ≡ false) × (b ≡ false)
first_no true b h = cc
first_no false b h = (refl, h)

-- names stay distinct
apart-name : (names : List (List ℕ)) (name : List ℕ) → IsDistinct bytes_eq names → IsDistinct bytes_eq (and_name names name)
apart-name names name a = elim (cases_Bool (list_any (bytes_eq name) names)) [
  | inl t ↦ rw t a
  | inr t ↦ rw t (distinct-push names name a t)
]

apart-after : (lines : List ClassLine) (names : List (List ℕ)) → IsDistinct bytes_eq names → IsDistinct bytes_eq (names_after names lines)
apart-after [] names a = a
apart-after (l ∷ lines) names a = apart-after lines (and_name names l.name) (apart-name names l.name a)

-- a name stays, and each line's name is there
there-name : (names : List (List ℕ)) (n name : List ℕ) → list_any (bytes_eq n) names ≡ true → list_any (bytes_eq n) (and_name names name) ≡ true
there-name names n name h = elim (cases_Bool (list_any (bytes_eq name) names)) [
  | inl t ↦ rw t h
  | inr t ↦ rw t (list_any-append (bytes_eq n) names (name ∷ []) ∙ rw h refl)
]

there-own : (names : List (List ℕ)) (name : List ℕ) → list_any (bytes_eq name) (and_name names name) ≡ true
there-own names name = elim (cases_Bool (list_any (bytes_eq name) names)) [
  | inl t ↦ rw t t
  | inr t ↦ rw t (list_any-append (bytes_eq name) names (name ∷ []) ∙ rw text_itself (or_true (list_any (bytes_eq name) names)))
]

there-after : (lines : List ClassLine) (names : List (List ℕ)) (n : List ℕ) → list_any (bytes_eq n) names ≡ true → list_any (bytes_eq n) (names_after names lines) ≡ true
there-after [] names n h = h
there-after (l ∷ lines) names n h = there-after lines (and_name names l.name) n (there-name names n l.name h)

-- a name that isn't there has no categories
pub none-of : (lines : List ClassLine) (names : List (List ℕ)) (name : List ℕ) → list_any (bytes_eq name) (names_after names lines) ≡ false → categories_under lines name ≡ []
none-of [] names name h = refl
none-of (l ∷ lines) names name h = elim (cases_Bool (bytes_eq name l.name)) [
  | inl t ↦
      let own = subst (λ x. list_any (bytes_eq x) (and_name names l.name) ≡ true) (sym (same_text name l.name t)) (there-own names l.name) in
      let e = there-after lines (and_name names l.name) name own in
      cc
  | inr t ↦ rw t (none-of lines (and_name names l.name) name h)
]

-- the variables of names, where f gives their categories
unfoldable pub named : (List ℕ → List CategoryValue) → List (List ℕ) → List VariableValue
named f names = map (λ name. record { name = name; categories = f name }) names

named-names : (names : List (List ℕ)) (f : List ℕ → List CategoryValue) → map (λ (v : VariableValue). v.name) (named f names) ≡ names
unfolding named
named-names [] f = refl
named-names (n ∷ names) f = ap (λ ns. n ∷ ns) (named-names names f)

-- among names that are all others, one more line changes nothing
named-others : (names : List (List ℕ)) (lines : List ClassLine) (line : ClassLine) → list_any (bytes_eq line.name) names ≡ false
    → named (categories_under (lines ++ line ∷ [])) names ≡ named (categories_under lines) names
unfolding named
named-others [] lines line h = refl
named-others (n ∷ names) lines line h =
    let (e, f) = first_no (bytes_eq line.name n) (list_any (bytes_eq line.name) names) h in
    rw (categories-other lines line n (text_other_way line.name n e)) (ap (λ vs. let v : VariableValue = record { name = n; categories = categories_under lines n } in v ∷ vs) (named-others names lines line f))

-- the categories at the place of a name
pub named-at : (names : List (List ℕ)) (f : List ℕ → List CategoryValue) (name : List ℕ) → list_any (bytes_eq name) names ≡ true
    → (get_or (named f names) (position_or_len (bytes_eq name) names) no_variable).categories ≡ f name
unfolding named
named-at [] f name h = cc
named-at (n ∷ names) f name h = elim (cases_Bool (bytes_eq name n)) [
  | inl t ↦ rw t (ap f (sym (same_text name n t)))
  | inr t ↦ rw (t, add_comm 1, add-one) (named-at names f name (rw t at h))
]

flipped : (a b : List ℕ) → bytes_eq a b ≡ true → bytes_eq b a ≡ true
flipped a b h = subst (λ x. bytes_eq x a ≡ true) (same_text a b h) (text_itself a)

-- among names of which one is its own, a line adds its category there
named-set : (names : List (List ℕ)) (lines : List ClassLine) (line : ClassLine) → IsDistinct bytes_eq names → list_any (bytes_eq line.name) names ≡ true
    → named (categories_under (lines ++ line ∷ [])) names ≡ with_category (named (categories_under lines) names) (position_or_len (bytes_eq line.name) names) line.category
unfolding IsDistinct named
named-set [] lines line a h = cc
named-set (n ∷ names) lines line a h = elim (cases_Bool (bytes_eq line.name n)) [
  | inl t ↦
      let apart = subst (λ x. list_any (bytes_eq x) names ≡ false) (sym (same_text line.name n t)) (none-equal names n a.0) in
      rw (t, categories-own lines line n (flipped line.name n t))
      (ap (λ vs. let v : VariableValue = record { name = n; categories = categories_under lines n ++ line.category ∷ [] } in v ∷ vs) (named-others names lines line apart))
  | inr t ↦
      rw (t, add_comm 1, add-one, categories-other lines line n (text_other_way line.name n t))
      (ap (λ vs. let v : VariableValue = record { name = n; categories = categories_under lines n } in v ∷ vs) (named-set names lines line a.1 (rw t at h)))
]

named-push : (names : List (List ℕ)) (f : List ℕ → List CategoryValue) (name : List ℕ) → named f (names ++ name ∷ []) ≡ named f names ++ (record { name = name; categories = f name }) ∷ []
unfolding named
named-push [] f name = refl
named-push (n ∷ names) f name = ap (λ vs. let v : VariableValue = record { name = n; categories = f n } in v ∷ vs) (named-push names f name)

-- a line of a new name
pub line-new : (lines : List ClassLine) (line : ClassLine) → list_any (bytes_eq line.name) (names_after [] lines) ≡ false
    → variables_in (lines ++ line ∷ []) ≡ variables_in lines ++ (record { name = line.name; categories = line.category ∷ [] }) ∷ []
unfolding named
line-new lines line h =
    let cats : categories_under (lines ++ line ∷ []) line.name ≡ line.category ∷ [] = categories-own lines line line.name (text_itself line.name) ∙ ap (λ cs. cs ++ line.category ∷ []) (none-of lines [] line.name h) in
    ap (named (categories_under (lines ++ line ∷ []))) (names-append lines [] line ∙ rw h refl)
    ∙ named-push (names_after [] lines) (categories_under (lines ++ line ∷ [])) line.name
    ∙ ap (λ vs. let v : VariableValue = record { name = line.name; categories = categories_under (lines ++ line ∷ []) line.name } in vs ++ v ∷ []) (named-others (names_after [] lines) lines line h)
    ∙ ap (λ cs. let v : VariableValue = record { name = line.name; categories = cs } in variables_in lines ++ v ∷ []) cats

-- a line of a name that is there
pub line-old : (lines : List ClassLine) (line : ClassLine) → list_any (bytes_eq line.name) (names_after [] lines) ≡ true
    → variables_in (lines ++ line ∷ []) ≡ with_category (variables_in lines) (position_or_len (bytes_eq line.name) (names_after [] lines)) line.category
unfolding IsDistinct named
line-old lines line h =
    ap (named (categories_under (lines ++ line ∷ []))) (names-append lines [] line ∙ rw h refl)
    ∙ named-set (names_after [] lines) lines line (apart-after lines [] tt) h

-- a line repeats another exactly where its variable has the code
pub repeats-code : (lines : List ClassLine) (line : ClassLine) → is_repeat lines line ≡ list_any (λ c. bytes_eq line.category.code c.code) (categories_under lines line.name)
repeats-code [] line = refl
repeats-code (l ∷ lines) line = elim (cases_Bool (bytes_eq line.name l.name)) [
  | inl t ↦ rw t (ap (λ b. bytes_eq line.category.code l.category.code || b) (repeats-code lines line))
  | inr t ↦ rw t (repeats-code lines line)
]

-- what one more line makes of the variables of lines
Goes : List ClassLine → ClassLine → List VariableValue → Type 0
Goes lines line ws = (variables_in (lines ++ line ∷ []) ≡ ws) × (is_repeat lines line ≡ false)

goes-new : (lines : List ClassLine) (line : ClassLine) (ws : List VariableValue) → list_any (bytes_eq line.name) (names_after [] lines) ≡ false → at_number (variables_in lines) line None ≡ Ok ws → Goes lines line ws
unfolding Goes
goes-new lines line ws t h = elim (cases_Bool (nat_le MOST_VARIABLES (length (variables_in lines)))) [
  | inl f ↦ let e = rw f at h in cc
  | inr f ↦
      let e = rw f at h in
      let is : variables_in lines ++ (record { name = line.name; categories = line.category ∷ [] }) ∷ [] ≡ ws = cc in
      (line-new lines line t ∙ is, repeats-code lines line ∙ rw (none-of lines [] line.name t) refl)
]

goes-old : (lines : List ClassLine) (line : ClassLine) (ws : List VariableValue) → list_any (bytes_eq line.name) (names_after [] lines) ≡ true
    → at_number (variables_in lines) line (Some (position_or_len (bytes_eq line.name) (names_after [] lines))) ≡ Ok ws → Goes lines line ws
unfolding Goes named
goes-old lines line ws t h =
    let v = position_or_len (bytes_eq line.name) (names_after [] lines) in
    elim (cases_Bool (is_code_of (get_or (variables_in lines) v no_variable) line.category.code)) [
      | inl f ↦ let e = rw f at h in cc
      | inr f ↦ let g = rw f at h in elim (cases_Bool (nat_le MOST_CATEGORIES (length (get_or (variables_in lines) v no_variable).categories))) [
        | inl u ↦ let e = rw u at g in cc
        | inr u ↦
            let e = rw u at g in
            let is : with_category (variables_in lines) v line.category ≡ ws = cc in (
              line-old lines line t ∙ is,
              repeats-code lines line ∙ ap (λ cs. list_any (λ (c : CategoryValue). bytes_eq line.category.code c.code) cs) (sym (named-at (names_after [] lines) (categories_under lines) line.name t)) ∙ f,
            )
      ]
    ]

pub number-of : (lines : List ClassLine) (line : ClassLine) → and_line (variables_in lines) line
    ≡ at_number (variables_in lines) line (cond (list_any (bytes_eq line.name) (names_after [] lines)) (Some (position_or_len (bytes_eq line.name) (names_after [] lines))) None)
unfolding named
number-of lines line = rw (named-names (names_after [] lines) (categories_under lines), any-place (names_after [] lines) (bytes_eq line.name)) refl

pub goes : (lines : List ClassLine) (line : ClassLine) (ws : List VariableValue) → and_line (variables_in lines) line ≡ Ok ws → (variables_in (lines ++ line ∷ []) ≡ ws) × (is_repeat lines line ≡ false)
unfolding Goes
goes lines line ws h =
    let g = sym (number-of lines line) ∙ h in
    elim (cases_Bool (list_any (bytes_eq line.name) (names_after [] lines))) [
      | inl t ↦ goes-old lines line ws t (rw t at g)
      | inr t ↦ goes-new lines line ws t (rw t at g)
    ]
