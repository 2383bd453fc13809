use Rattle.std.proofs.Common.{◌+◌, ◌∷◌, ◌++◌, [], drop, map, sym, ap, ◌∙◌}
use Rattle.tb_query.specs.declared.fault.QueryFault.TheVariants as faults
use Rattle.tb_query.specs.Faults.{unknown_code, unknown_code_in, unknown_in}
use Rattle.tb_query.specs.Meanings.{filter_meant, name_of_token}
use Rattle.tb_query.specs.Views.{filter_view, filter_views, token_view}
use Rattle.tb_query.specs.Grammar.{NamedFilter}
use Rattle.tb_query.proofs.Found.{head_found}
use Rattle.tb_query.proofs.OneMore.{left, made_more, no_memory, none_or, passed_on, refuses_first}
use Rattle.tb_query.proofs.codes.filters_meant.Goals as goal

pub loop-f-preserved : goal.loop-f-preserved
loop-f-preserved c =
    let schema = c.args.schema.now in
    let rest = filter_views (drop (c.loop-f.f-index + 1) c.args.filters.now) in
    let begins = left filter_view c.args.filters.now c.loop-f.f-index c.f-item.result c.loop-f-test.true c.f-item.is in
    record {
      meant = made_more filter_view c.args.filters.now c.loop-f.f-index c.f-item.result c.loop-f-test.true c.f-item.is (filter_meant schema) c.loop-f.meant.items c.push.new.self.items
          c.loop-f.invariant.meant (c.in_ok-push.ensures.items ∙ ap (λ one. c.loop-f.meant.items ++ one ∷ []) c.in_ok-one.ensures.told);
      known = (head_found (name_of_token schema) (token_view c.f-item.result.name) (map (λ (f : NamedFilter). f.name) rest)
          (ap (λ fs. unknown_in schema (map (λ (f : NamedFilter). f.name) fs)) (sym begins) ∙ c.loop-f.invariant.known)).1;
      rest = none_or (unknown_code_in schema (filter_view c.f-item.result)) (unknown_code schema rest) (unknown_code schema (filter_views c.args.filters.now))
          (ap (unknown_code schema) (sym begins) ∙ c.loop-f.invariant.rest) c.in_ok-one.ensures.no_fault;
    }

pub filter_meant-requires : goal.filter_meant-requires
filter_meant-requires c =
    let schema = c.args.schema.now in
    let begins = left filter_view c.args.filters.now c.loop-f.f-index c.f-item.result c.loop-f-test.true c.f-item.is in
    (head_found (name_of_token schema) (token_view c.f-item.result.name) (map (λ (f : NamedFilter). f.name) (filter_views (drop (c.loop-f.f-index + 1) c.args.filters.now)))
    (ap (λ fs. unknown_in schema (map (λ (f : NamedFilter). f.name) fs)) (sym begins) ∙ c.loop-f.invariant.known)).0

pub returns-in_err-one : goal.returns-in_err-one
returns-in_err-one c =
    let schema = c.args.schema.now in
    let begins = left filter_view c.args.filters.now c.loop-f.f-index c.f-item.result c.loop-f-test.true c.f-item.is in
    passed_on _ _ _ _ c.in_err-one.field-0.0 c.from_residual.ensures.1
    (refuses_first c.in_err-one.field-0.0 faults.UnknownCode (unknown_code_in schema (filter_view c.f-item.result))
    (unknown_code schema (filter_views (drop (c.loop-f.f-index + 1) c.args.filters.now)))
    (unknown_code schema (filter_views c.args.filters.now)) (ap (unknown_code schema) (sym begins)
    ∙ c.loop-f.invariant.rest) c.in_err-one.ensures.refused)

pub returns-in_err-push : goal.returns-in_err-push
returns-in_err-push c = no_memory _ _ _ _ c.from_residual-in_err-push.ensures.1
