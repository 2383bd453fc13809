use Rattle.std.proofs.Common.{◌≡◌, false, true, rules}
use Rattle.std.specs.Prelude.{codes}
use Rattle.tb_text.specs.Lines.{before_another}
use Rattle.tb_text.proofs.Dimensions.{without_total, with_total}
use Rattle.tb_text.proofs.SpanFacts.{parts_and_one}
use Rattle.tb_text.proofs.fields.write_entries.Goals as goal

pub returns-then-not-totals-clause-fields : goal.returns-then-not-totals-clause-fields
returns-then-not-totals-clause-fields c =
    let none : c.args.query.now.totals ≡ false = search rules in
    rw (without_total c.args.schema.now c.args.query.now c.args.of none) at c.in_ok-spans.ensures.fields

pub returns-clause-fields : goal.returns-clause-fields
returns-clause-fields c =
    let some : c.args.query.now.totals ≡ true = search rules in
    rw (← with_total c.args.schema.now c.args.query.now c.args.of some)
    (parts_and_one _ _ (before_another (codes "Total")) c.in_ok-spans.spans.items _ c.in_ok-total.total _
    c.in_ok-spans.ensures.fields c.in_ok-total.ensures.text c.in_ok-total.ensures.start c.in_ok-total.ensures.end c.in_ok-push.ensures.items)
