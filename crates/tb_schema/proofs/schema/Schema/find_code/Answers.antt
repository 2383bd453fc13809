use Rattle.std.proofs.Common.{◌∙◌, sym, ap, subst}
use Rattle.std.specs.Prelude.{bytes_eq}
use Rattle.std.specs.List.{IsDistinct}
use Rattle.tb_schema.specs.Names.{category_codes, place_in}
use Rattle.tb_schema.proofs.Lookups.{codes-view}
use Rattle.tb_schema.proofs.schema.Schema.find_code.Goals as goal

pub find-requires : goal.find-requires
find-requires c =
    subst (λ ts. IsDistinct bytes_eq ts) (ap category_codes c.variable.ensures.value ∙ codes-view c.variable.result.1.now.entries) c.variable.ensures.distinct

pub returns-in-Some-clause-place : goal.returns-in-Some-clause-place
returns-in-Some-clause-place c =
    c.find.ensures.place ∙ ap (λ ts. place_in ts c.args.code.now) (sym (ap category_codes c.variable.ensures.value ∙ codes-view c.variable.result.1.now.entries))

pub returns-in-None-clause-place : goal.returns-in-None-clause-place
returns-in-None-clause-place c =
    c.find_key.ensures.place ∙ ap (λ ts. place_in ts c.args.code.now) (sym (ap category_codes c.variable.ensures.value ∙ codes-view c.variable.result.1.now.entries))
