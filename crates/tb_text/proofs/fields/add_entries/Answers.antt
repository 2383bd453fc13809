use Rattle.std.proofs.Common.{◌≡◌, false, true, rules}
use Rattle.std.specs.Prelude.{codes}
use Rattle.tb_text.specs.Lines.{before_another}
use Rattle.tb_text.specs.Spans.{AreParts}
use Rattle.tb_text.proofs.Dimensions.{category_fields_of, without_total, with_total}
use Rattle.tb_text.proofs.SpanFacts.{parts_and_one}
use Rattle.tb_text.proofs.fields.add_entries.Goals as goal

pub returns-then-not-totals : goal.returns-then-not-totals
returns-then-not-totals c =
    let none : c.args.query.now.totals ≡ false = search rules in
    let parts : AreParts c.add_categories.new.text c.in-Some.spans.items (category_fields_of c.args.schema.now c.args.query.now c.args.of) = rw c.in-Some.is at c.in_ok-found.ensures in
    rw (without_total c.args.schema.now c.args.query.now c.args.of none) at parts

pub returns : goal.returns
returns c =
    let some : c.args.query.now.totals ≡ true = search rules in
    let parts : AreParts c.add_categories.new.text c.in-Some.spans.items (category_fields_of c.args.schema.now c.args.query.now c.args.of) = rw c.in-Some.is at c.in_ok-found.ensures in
    rw (← with_total c.args.schema.now c.args.query.now c.args.of some)
    (parts_and_one _ _ (before_another (codes "Total")) c.in-Some.spans.items _ c.in-Some-last.total _
    parts (rw c.in-Some-last.is at c.in_ok-last.ensures.text) (rw c.in-Some-last.is at c.in_ok-last.ensures.start) (rw c.in-Some-last.is at c.in_ok-last.ensures.end) c.in_ok-push.ensures.items)
