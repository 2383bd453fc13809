use Rattle.std.proofs.Common.{◌≡◌, ℕ, ◌%◌, List, [], ◌∷◌, ◌++◌, ◌∙◌, refl, ap, subst, decimal, OnOk}
use Rattle.tb_gen.specs.declared.classes.TheConstants.{KEY_RANGE}
use Rattle.tb_gen.specs.declared.variables.Variable.TheVariants.{Area, Age, Sex, Tenure}
use Rattle.tb_gen.specs.Draws.{draw}
use Rattle.tb_gen.specs.Variables.{code_of, categories_of, drawn_code}
use Rattle.tb_gen.proofs.Steps.{next_is, next_value}
use Rattle.tb_gen.proofs.Fields.{last_field, field_before}
use Rattle.tb_gen.proofs.people.add_person.Goals as goal

pub returns-clause-draws : goal.returns-clause-draws
returns-clause-draws c =
    let x = c.args.draws.now in
    next_is 4 x _ _ (next_is 3 x _ _ (next_is 2 x _ _ (next_is 1 x _ _ c.draw-key.ensures.state c.draw-area.ensures.draws)
    c.draw-age.ensures.draws) c.draw-sex.ensures.draws) c.draw-tenure.ensures.draws

pub returns-clause-line : goal.returns-clause-line
returns-clause-line c =
    let x = c.args.draws.now in
    let one = c.draw-key.ensures.state in
    let two = next_is 1 x _ _ one c.draw-area.ensures.draws in
    let three = next_is 2 x _ _ two c.draw-age.ensures.draws in
    let four = next_is 3 x _ _ three c.draw-sex.ensures.draws in
    let tenure : List ℕ = drawn_code Tenure (draw 5 x) in
    let sex : List ℕ = drawn_code Sex (draw 4 x) in
    let age : List ℕ = drawn_code Age (draw 3 x) in
    let area : List ℕ = drawn_code Area (draw 2 x) in
    let key : List ℕ = decimal (draw 1 x % KEY_RANGE) in
    let tenure_is : code_of Tenure c.draw-tenure.result ≡ tenure
    = ap (λ k. code_of Tenure k) (c.draw-tenure.ensures.category ∙ ap (λ v. v % categories_of Tenure) (next_value 4 x _ four)) in
    let sex_is : code_of Sex c.draw-sex.result ≡ sex
    = ap (λ k. code_of Sex k) (c.draw-sex.ensures.category ∙ ap (λ v. v % categories_of Sex) (next_value 3 x _ three)) in
    let age_is : code_of Age c.draw-age.result ≡ age
    = ap (λ k. code_of Age k) (c.draw-age.ensures.category ∙ ap (λ v. v % categories_of Age) (next_value 2 x _ two)) in
    let area_is : code_of Area c.draw-area.result ≡ area
    = ap (λ k. code_of Area k) (c.draw-area.ensures.category ∙ ap (λ v. v % categories_of Area) (next_value 1 x _ one)) in
    let key_is : decimal (c.draw-key.result % KEY_RANGE) ≡ key = rw c.draw-key.ensures.value refl in
    let l1 = last_field _ _ _ tenure c.end-line.ensures c.put_code.ensures.code tenure_is in
    let l2 = field_before _ _ _ _ sex tenure [] l1 c.put_byte.ensures c.put_code-2.ensures.code sex_is in
    let l3 = field_before _ _ _ _ age sex (tenure ∷ []) l2 c.put_byte-2.ensures c.put_code-3.ensures.code age_is in
    let l4 = field_before _ _ _ _ area age (sex ∷ tenure ∷ []) l3 c.put_byte-3.ensures c.put_code-4.ensures.code area_is in
    let l5 = field_before _ _ _ _ key area (age ∷ sex ∷ tenure ∷ []) l4 c.put_byte-4.ensures c.put_number.ensures.digits key_is in
    let l6 = field_before _ _ _ _ (decimal c.args.person) key (area ∷ age ∷ sex ∷ tenure ∷ []) l5 c.put_byte-5.ensures
    c.put_number-2.ensures.digits refl in
    subst (λ (t : List ℕ). OnOk c.add_to.result (c.add_to.new.file.items ≡ c.args.file.now.items ++ t)) l6 c.add_to.ensures
