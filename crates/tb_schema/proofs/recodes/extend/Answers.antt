use Rattle.std.proofs.Common.{◌≡◌, ◌≢◌, ◌∙◌, ap, subst, sym, Err, IfErr, List, Ok, Result, map}
use Rattle.indexmap.specs.Layout.{set_value_at}
use Rattle.tb_rows.specs.Formats.{and_then, at_record}
use Rattle.tb_rows.specs.declared.fault.Fault.TheVariants.{Memory}
use Rattle.tb_schema.specs.Groupings.{with_code}
use Rattle.tb_schema.specs.Recodes.{PartialRecode, recode_line_of}
use Rattle.tb_schema.specs.Views.{partial_view}
use Rattle.tb_schema.specs.declared.fault.SchemaKind.{SchemaKind}
use Rattle.tb_schema.proofs.RecodeTaking.{old-few, old-goes, old-other, old-there, refused-then, with_grouping}
use Rattle.tb_schema.proofs.Taking.{on_ok_then}
use Rattle.tb_schema.proofs.recodes.extend.Goals as goal

pub returns-then-recode-variable-clause-refused : goal.returns-then-recode-variable-clause-refused
returns-then-recode-variable-clause-refused c =
    rw c.fault_at.ensures (λ _. ap (at_record c.args.at)
    (old-other c.args.schema.now.variables c.args.recodes.now.entries c.args.at (recode_line_of c.args.line.now) c.args.variable c.args.i c.in-Some.recode.now (sym c.in-Some.ensures.value) c.if-recode-variable.true))

pub put-requires-clause-there : goal.put-requires-clause-there
put-requires-clause-there c =
    old-there c.args.schema.now.variables c.args.recodes.now.entries c.args.at (recode_line_of c.args.line.now) c.args.variable c.args.i c.in-Some.recode.now (sym c.in-Some.ensures.value) c.requires.known c.requires.there
    c.code_of-code.result c.if-recode-variable.false c.code_of-code.ensures.code

pub put-requires-clause-few : goal.put-requires-clause-few
put-requires-clause-few c =
    old-few c.args.schema.now.variables c.args.recodes.now.entries c.args.at (recode_line_of c.args.line.now) c.args.variable c.args.i c.in-Some.recode.now (sym c.in-Some.ensures.value) c.requires.known c.requires.there

pub returns-clause-ok : goal.returns-clause-ok
returns-clause-ok c =
    let goes = old-goes c.args.schema.now.variables c.args.recodes.now.entries c.args.at (recode_line_of c.args.line.now) c.args.variable c.args.i c.in-Some.recode.now (sym c.in-Some.ensures.value)
    c.code_of-code.result c.if-recode-variable.false c.code_of-code.ensures.code in
    on_ok_then c.put.result c.put.ensures.ok (λ h. goes ∙ ap (λ r. and_then r (λ g. Ok (map partial_view (set_value_at c.args.recodes.now.entries c.args.i (with_grouping c.in-Some.recode.now g))))) h)

pub returns-clause-refused : goal.returns-clause-refused
returns-clause-refused c =
    let goes = old-goes c.args.schema.now.variables c.args.recodes.now.entries c.args.at (recode_line_of c.args.line.now) c.args.variable c.args.i c.in-Some.recode.now (sym c.in-Some.ensures.value)
    c.code_of-code.result c.if-recode-variable.false c.code_of-code.ensures.code in
    subst (λ (r : Result (List PartialRecode) SchemaKind). IfErr c.put.result (λ e. e ≢ Memory → at_record c.args.at r ≡ Err e)) (sym goes)
    (refused-then c.args.at (with_code c.in-Some.recode.now.grouping c.args.line.now.group.now c.code_of-code.result) (λ g. Ok (map partial_view (set_value_at c.args.recodes.now.entries c.args.i (with_grouping c.in-Some.recode.now g)))) c.put.result c.put.ensures.refused)
