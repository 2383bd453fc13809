use Rattle.std.proofs.Common.{◌≡◌, ◌∙◌, ◌++◌, ◌∷◌, ℕ, List, [], OnOk, ap, subst}
use Rattle.std.specs.Prelude.{codes, decimal}
use Rattle.csv.specs.Writing.{default_writer, row_text}
use Rattle.tb_describe.specs.Lists.{kind_text, name_record}
use Rattle.tb_describe.specs.Writers.{written}
use Rattle.tb_model.specs.declared.names.NameOf.TheVariants as name_of
use Rattle.tb_model.specs.Schemas.{category_count, name_text}
use Rattle.tb_describe.proofs.lists.add_recode.Goals as goal

pub returns-clause-text : goal.returns-clause-text
returns-clause-text c =
    let schema = c.args.schema.now in
    let of = name_of.Recode c.args.r in
    let kind : c.deref.result.now ≡ kind_text schema of =
    c.deref.ensures.value
    ∙ c.in_ok-extend_from_slice.ensures.items
    ∙ ap (λ t. t ++ c.as_bytes.result.now) c.in_ok-kind.ensures.items
    ∙ ap (λ t. codes "recode of " ++ t) (c.as_bytes.ensures.value ∙ c.name.ensures ∙ ap (λ v. name_text schema (name_of.Variable v)) c.base_of.ensures.base) in
    let name : c.as_bytes-name.result.now ≡ name_text schema of = c.as_bytes-name.ensures.value ∙ c.name-2.ensures in
    let count : c.as_bytes-count.result.now ≡ decimal (category_count schema of) = c.as_bytes-count.ensures.value ∙ c.format.ensures.text ∙ ap decimal c.categories.ensures in
    let fields : (c.as_bytes-name.result.now ∷ c.deref.result.now ∷ c.as_bytes-count.result.now ∷ []) ≡ name_record schema of =
    ap (λ t. t ∷ c.deref.result.now ∷ c.as_bytes-count.result.now ∷ []) name
    ∙ ap (λ t. name_text schema of ∷ t ∷ c.as_bytes-count.result.now ∷ []) kind
    ∙ ap (λ t. name_text schema of ∷ kind_text schema of ∷ t ∷ []) count in
    subst (λ (f : List (List ℕ)). OnOk c.add_three.result (written c.add_three.new.rows ≡ written c.args.rows.now ++ row_text default_writer f)) fields c.add_three.ensures.text
