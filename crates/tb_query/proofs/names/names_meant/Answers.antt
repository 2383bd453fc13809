use Rattle.std.proofs.Common.{◌∷◌, [], sym, ap, subst}
use Rattle.std.specs.Prelude.{All}
use Rattle.std.specs.Option.{option_map}
use Rattle.std.proofs.lemmas.List.Elements.{All-append, All-cons, All-nil}
use Rattle.tb_model.specs.declared.names.NameOf.TheVariants as name_of
use Rattle.tb_query.specs.declared.fault.QueryFault.TheVariants as faults
use Rattle.tb_schema.specs.Names.{IsName}
use Rattle.tb_query.specs.Faults.{RefusesBy, unknown_in}
use Rattle.tb_query.specs.Meanings.{name_of_token}
use Rattle.tb_query.specs.Views.{token_views}
use Rattle.tb_query.proofs.Found.{found_more, rest_more, unknown_here}
use Rattle.tb_query.proofs.OneMore.{no_memory, passed_on}
use Rattle.tb_query.proofs.names.names_meant.Goals as goal

pub loop-t-preserved : goal.loop-t-preserved
loop-t-preserved c =
    let schema = c.args.schema.now in
    let of = c.in_ok-of.of in
    record {
      meant = found_more (name_of_token schema) c.args.names.now c.loop-t.t-index _ c.loop-t-test.true (name_of.Variable 0) of c.loop-t.meant.items c.push.new.self.items
          c.in_ok-of.ensures.0 c.loop-t.invariant.meant c.in_ok-push.ensures.items;
      known = subst (All (IsName schema)) (sym c.in_ok-push.ensures.items)
          (All-append (IsName schema) c.loop-t.meant.items (of ∷ []) c.loop-t.invariant.known (All-cons (IsName schema) of [] c.in_ok-of.ensures.1 (All-nil (IsName schema))));
      rest = rest_more (name_of_token schema) c.args.names.now c.loop-t.t-index _ c.loop-t-test.true of c.in_ok-of.ensures.0 c.loop-t.invariant.rest;
    }

pub returns-in_err-of : goal.returns-in_err-of
returns-in_err-of c =
    let unknown = unknown_here (name_of_token c.args.schema.now) c.args.names.now c.loop-t.t-index _ c.loop-t-test.true
    c.in_err-of.ensures.0 c.loop-t.invariant.rest in
    let fault = option_map faults.UnknownName (unknown_in c.args.schema.now (token_views c.args.names.now)) in
    passed_on _ _ _ _ c.in_err-of.field-0.0 c.from_residual.ensures.1
    (subst (λ e. RefusesBy e fault) (sym c.in_err-of.ensures.1) (ap (option_map faults.UnknownName) unknown))

pub returns-in_err-push : goal.returns-in_err-push
returns-in_err-push c = no_memory _ _ _ _ c.from_residual-in_err-push.ensures.1
