-- What holds of all lines of a file, seen from the lines at its front.
use Rattle.std.proofs.Common.{◌≡◌, ◌∙◌, ap, sym, subst, refl, ℕ, ◌≤◌, ◌<◌, true, false, List, [], ◌∷◌, ◌++◌, length, get_or, Some, None, Ok, length-append, append_assoc, arith, inl, inr}
use Rattle.std.specs.Prelude.{bytes_eq, nat_le}
use Rattle.std.specs.List.{list_any, position_or_len}
use Rattle.std.proofs.lemmas.List.{append-nil, length-map}
use Rattle.std.proofs.lemmas.Bool.{cases_Bool}
use Rattle.tb_model.specs.Schemas.{VariableValue, CategoryValue}
use Rattle.tb_schema.specs.Classes.{ClassLine, and_line, at_number, is_code_of}
use Rattle.tb_schema.specs.Names.{no_variable}
use Rattle.tb_schema.specs.declared.limits.TheConstants.{MOST_CATEGORIES, MOST_VARIABLES}
use Rattle.tb_schema.proofs.Distinct.{any-place}
use Rattle.tb_schema.specs.Limits.{AreSmall, AreWithin}
use Rattle.tb_schema.specs.WholeFiles.{and_name, names_after, categories_under, variables_in, is_repeat}
use Rattle.tb_schema.proofs.Lines.{categories-own, line-new, line-old, named, named-at, names-append, number-of, repeats-code}
use Rattle.tb_base.proofs.Texts.{text_itself}
use Rattle.std.proofs.lemmas.List.Elements.{All-cons, All-get_or, All-head, All-nil, All-tail}
use Rattle.tb_schema.proofs.Orders.{below, less}

-- the names of the lines at the front stay, and come first
names-both : (front back : List ClassLine) (names : List (List ℕ)) → names_after names (front ++ back) ≡ names_after (names_after names front) back
names-both [] back names = refl
names-both (line ∷ front) back names = names-both front back (and_name names line.name)

names-grow : (lines : List ClassLine) (names : List (List ℕ)) → (more : List (List ℕ)) × (names_after names lines ≡ names ++ more)
names-grow [] names = ([], sym (append-nil names))
names-grow (line ∷ lines) names = elim (cases_Bool (list_any (bytes_eq line.name) names)) [
  | inl t ↦ rw t (names-grow lines names)
  | inr t ↦
      let (more, e) = names-grow lines (names ++ line.name ∷ []) in
      (line.name ∷ more, rw t (e ∙ append_assoc names (line.name ∷ []) more))
]

-- and each of them has as many categories, or fewer
categories-grow : (front back : List ClassLine) (name : List ℕ) → length (categories_under front name) ≤ length (categories_under (front ++ back) name)
categories-grow [] back name = omega arith
categories-grow (line ∷ front) back name = elim (cases_Bool (bytes_eq name line.name)) [
  | inl t ↦ rw t (omega (arith, categories-grow front back name))
  | inr t ↦ rw t (categories-grow front back name)
]

abbrev small : VariableValue → Type 0
small v = length v.categories ≤ MOST_CATEGORIES

small-front : (names more : List (List ℕ)) (f g : List ℕ → List CategoryValue) → ((name : List ℕ) → length (f name) ≤ length (g name)) → AreSmall (named g (names ++ more)) → AreSmall (named f names)
unfolding named
small-front [] more f g least s = All-nil small
small-front (name ∷ names) more f g least s =
    All-cons small (record { name = name; categories = f name }) (named f names) (omega (arith, least name, All-head small (record { name = name; categories = g name }) (named g (names ++ more)) s))
    (small-front names more f g least (All-tail small (record { name = name; categories = g name }) (named g (names ++ more)) s))

-- what is within the limits is so at each of its lines
pub within-front : (front back : List ClassLine) → AreWithin (variables_in (front ++ back)) → AreWithin (variables_in front)
unfolding named
within-front front back s =
    let f = categories_under front in
    let g = categories_under (front ++ back) in
    let names = names_after [] front in
    let (more, grown) = names-grow back names in
    let all : names_after [] (front ++ back) ≡ names ++ more = names-both front back [] ∙ grown in
    let w : AreWithin (named g (names ++ more)) = subst (λ ns. AreWithin (named g ns)) all s in
    record {
      small = small-front names more f g (categories-grow front back) w.small;
      few = omega (arith, w.few, length-map names (λ (name : List ℕ). let v : VariableValue = record { name = name; categories = f name } in v), length-map (names ++ more) (λ (name : List ℕ). let v : VariableValue = record { name = name; categories = g name } in v), length-append names more);
    }

-- a line of a new name
takes-new : (lines : List ClassLine) (line : ClassLine) → list_any (bytes_eq line.name) (names_after [] lines) ≡ false → AreWithin (variables_in (lines ++ line ∷ []))
    → at_number (variables_in lines) line None ≡ Ok (variables_in (lines ++ line ∷ []))
takes-new lines line t s =
    let v : VariableValue = record { name = line.name; categories = line.category ∷ [] } in
    let w : AreWithin (variables_in lines ++ v ∷ []) = subst AreWithin (line-new lines line t) s in
    let room : length (variables_in lines) < MOST_VARIABLES = omega (arith, w.few, length-append (variables_in lines) (v ∷ [])) in
    rw (below MOST_VARIABLES (length (variables_in lines)) room) (ap (λ vs. Ok vs) (sym (line-new lines line t)))

-- the names after a line of a name that is there
names-old : (lines : List ClassLine) (line : ClassLine) → list_any (bytes_eq line.name) (names_after [] lines) ≡ true → names_after [] (lines ++ line ∷ []) ≡ names_after [] lines
names-old lines line t = names-append lines [] line ∙ rw t refl

-- its variable has room for one category more
room-old : (lines : List ClassLine) (line : ClassLine) → list_any (bytes_eq line.name) (names_after [] lines) ≡ true → AreWithin (variables_in (lines ++ line ∷ [])) → length (categories_under lines line.name) < MOST_CATEGORIES
unfolding named
room-old lines line t s =
    let names = names_after [] lines in
    let f = categories_under (lines ++ line ∷ []) in
    let p = position_or_len (bytes_eq line.name) names in
    let w : AreWithin (named f names) = subst (λ ns. AreWithin (named f ns)) (names-old lines line t) s in
    let in_range : p < length (named f names) = omega (arith, less p (length names) (any-place names (bytes_eq line.name) ∙ t), length-map names (λ (name : List ℕ). let v : VariableValue = record { name = name; categories = f name } in v)) in
    let most : length (get_or (named f names) p no_variable).categories ≤ MOST_CATEGORIES = All-get_or small (named f names) p no_variable in_range w.small in
    let is : (get_or (named f names) p no_variable).categories ≡ categories_under lines line.name ++ line.category ∷ [] = named-at names f line.name t ∙ categories-own lines line line.name (text_itself line.name) in
    omega (arith, most, ap (λ (cs : List CategoryValue). length cs) is, length-append (categories_under lines line.name) (line.category ∷ []))

takes-old : (lines : List ClassLine) (line : ClassLine) → list_any (bytes_eq line.name) (names_after [] lines) ≡ true → is_repeat lines line ≡ false → AreWithin (variables_in (lines ++ line ∷ []))
    → at_number (variables_in lines) line (Some (position_or_len (bytes_eq line.name) (names_after [] lines))) ≡ Ok (variables_in (lines ++ line ∷ []))
unfolding named
takes-old lines line t new s =
    let p = position_or_len (bytes_eq line.name) (names_after [] lines) in
    let own : (get_or (variables_in lines) p no_variable).categories ≡ categories_under lines line.name = named-at (names_after [] lines) (categories_under lines) line.name t in
    let no_code : is_code_of (get_or (variables_in lines) p no_variable) line.category.code ≡ false
    = ap (λ cs. list_any (λ (c : CategoryValue). bytes_eq line.category.code c.code) cs) own ∙ sym (repeats-code lines line) ∙ new in
    let fits : nat_le MOST_CATEGORIES (length (get_or (variables_in lines) p no_variable).categories) ≡ false
    = ap (λ (cs : List CategoryValue). nat_le MOST_CATEGORIES (length cs)) own ∙ below MOST_CATEGORIES (length (categories_under lines line.name)) (room-old lines line t s) in
    rw (no_code, fits) (ap (λ vs. Ok vs) (sym (line-old lines line t)))

-- a line that repeats none is taken, where the variables stay within the limits
pub takes : (lines : List ClassLine) (line : ClassLine) → is_repeat lines line ≡ false → AreWithin (variables_in (lines ++ line ∷ []))
    → and_line (variables_in lines) line ≡ Ok (variables_in (lines ++ line ∷ []))
takes lines line new s = number-of lines line ∙ elim (cases_Bool (list_any (bytes_eq line.name) (names_after [] lines))) [
  | inl t ↦ rw t (takes-old lines line t new s)
  | inr t ↦ rw t (takes-new lines line t s)
]
