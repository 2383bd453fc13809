use Rattle.std.proofs.Common.{sym, ap, subst}
use Rattle.std.specs.Option.{option_map}
use Rattle.tb_query.specs.declared.fault.QueryFault.TheVariants as faults
use Rattle.tb_query.specs.Faults.{RefusesBy, unknown_among}
use Rattle.tb_query.specs.Meanings.{code_of_token}
use Rattle.tb_query.specs.Views.{token_views}
use Rattle.tb_query.proofs.Found.{found_more, rest_more, unknown_here}
use Rattle.tb_query.proofs.OneMore.{no_memory, passed_on}
use Rattle.tb_query.proofs.codes.codes_meant.Goals as goal

pub loop-t-preserved : goal.loop-t-preserved
loop-t-preserved c =
    let found = code_of_token c.args.schema.now c.args.of in
    let number = c.in_ok-number.number in
    record {
      meant = found_more found c.args.codes.now c.loop-t.t-index _ c.loop-t-test.true 0 number c.loop-t.numbers.items c.push.new.self.items
          c.in_ok-number.ensures c.loop-t.invariant.meant c.in_ok-push.ensures.items;
      rest = rest_more found c.args.codes.now c.loop-t.t-index _ c.loop-t-test.true number c.in_ok-number.ensures c.loop-t.invariant.rest;
    }

pub returns-in_err-number : goal.returns-in_err-number
returns-in_err-number c =
    let look_up = code_of_token c.args.schema.now c.args.of in
    let unknown = unknown_here look_up c.args.codes.now c.loop-t.t-index _ c.loop-t-test.true
    c.in_err-number.ensures.0 c.loop-t.invariant.rest in
    let fault = option_map faults.UnknownCode (unknown_among c.args.schema.now c.args.of (token_views c.args.codes.now)) in
    passed_on _ _ _ _ c.in_err-number.field-0.0 c.from_residual.ensures.1
    (subst (λ e. RefusesBy e fault) (sym c.in_err-number.ensures.1) (ap (option_map faults.UnknownCode) unknown))

pub returns-in_err-push : goal.returns-in_err-push
returns-in_err-push c = no_memory _ _ _ _ c.from_residual-in_err-push.ensures.1
