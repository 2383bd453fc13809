use Rattle.std.proofs.Common.{◌≡◌, ◌∙◌, ap, rules, sym}
use Rattle.std.specs.Prelude.{find, option_copied, option_map}
use Rattle.std.specs.Map.{values_of}
use Rattle.std.proofs.lemmas.Iterator.Consumers.{YieldsList-from_rest}
use Rattle.std.proofs.lemmas.Iterator.Search.{find_from_yields_List}
use Rattle.tb_schema.specs.declared.recode.Recode.{Recode as RecodeText}
use Rattle.tb_schema.proofs.RecodeTaking.{first-lacking, lacks}
use Rattle.tb_schema.proofs.recodes.first_partial.Goals as goal

pub returns-in-Some : goal.returns-in-Some
returns-in-Some c =
    let es = c.args.recodes.now.entries in
    let found : option_copied c.find.result ≡ find lacks (values_of es) = find_from_yields_List lacks _ _ c.find.result c.find.ensures.ran (YieldsList-from_rest (values_of es) c.values.ensures.rest) (λ x b q k. search rules) in
    sym (first-lacking es ∙ ap (option_map (λ (r : RecodeText). r.first)) (sym found ∙ ap (λ o. option_copied o) c.in-Some.is))

pub returns-in-None : goal.returns-in-None
returns-in-None c =
    let es = c.args.recodes.now.entries in
    let found : option_copied c.find.result ≡ find lacks (values_of es) = find_from_yields_List lacks _ _ c.find.result c.find.ensures.ran (YieldsList-from_rest (values_of es) c.values.ensures.rest) (λ x b q k. search rules) in
    sym (first-lacking es ∙ ap (option_map (λ (r : RecodeText). r.first)) (sym found ∙ ap (λ o. option_copied o) c.in-None.is))
