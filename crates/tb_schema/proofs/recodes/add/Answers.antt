use Rattle.std.proofs.Common.{◌≡◌, ◌≢◌, ◌∙◌, ap, subst, sym, Err, IfErr, None, Result, Some, map, string_bytes}
use Rattle.std.specs.Map.{keys_of}
use Rattle.tb_rows.specs.Formats.{and_then, at_record}
use Rattle.tb_rows.specs.declared.fault.Fault.TheVariants.{Memory}
use Rattle.tb_schema.specs.Names.{place_in, variable_names}
use Rattle.tb_schema.specs.Recodes.{PartialValue, and_recode, at_recode, recode_line_of}
use Rattle.tb_schema.specs.Views.{so_far_view}
use Rattle.tb_schema.specs.declared.fault.SchemaKind.{SchemaKind}
use Rattle.tb_schema.proofs.RecodeTaking.{key-place, line-goes, line-old, name-place, new-key, refused-then, with_all}
use Rattle.tb_schema.proofs.Taking.{none_there, on_ok_then}
use Rattle.tb_schema.proofs.recodes.add.Goals as goal

pub begin-requires-clause-fresh : goal.begin-requires-clause-fresh
begin-requires-clause-fresh c =
    new-key c.args.recodes.now.entries c.args.line.now.name.now (ap (place_in (map string_bytes (keys_of c.args.recodes.now.entries))) (sym c.as_bytes.ensures.value) ∙ sym c.find_key.ensures.place ∙ c.in-None.is)

-- a line of a recode that there is
old : (c : goal.After-extend) → and_recode c.args.at (so_far_view c.args.schema.now.variables c.args.recodes.now) (recode_line_of c.args.line.now)
    ≡ and_then (at_recode (so_far_view c.args.schema.now.variables c.args.recodes.now) c.args.at (recode_line_of c.args.line.now) c.in-Some.variable (Some c.in-Some-find_key.i)) (with_all (so_far_view c.args.schema.now.variables c.args.recodes.now))
old c =
    line-old (so_far_view c.args.schema.now.variables c.args.recodes.now) c.args.at (recode_line_of c.args.line.now) c.in-Some.variable (sym c.find_variable.ensures.place ∙ c.in-Some.is) c.in-Some-find_key.i c.requires.known
    (key-place c.args.recodes.now.entries c.as_bytes.result.now c.args.line.now.name.now c.find_key.result (Some c.in-Some-find_key.i) c.as_bytes.ensures.value c.find_key.ensures.place c.in-Some-find_key.is)

pub returns-in-Some-find_key-clause-ok : goal.returns-in-Some-find_key-clause-ok
returns-in-Some-find_key-clause-ok c =
    on_ok_then c.extend.result c.extend.ensures.ok (λ h. old c ∙ ap (λ r. and_then r (with_all (so_far_view c.args.schema.now.variables c.args.recodes.now))) h)

pub returns-in-Some-find_key-clause-refused : goal.returns-in-Some-find_key-clause-refused
returns-in-Some-find_key-clause-refused c =
    subst (λ (r : Result PartialValue SchemaKind). IfErr c.extend.result (λ e. e ≢ Memory → at_record c.args.at r ≡ Err e)) (sym (old c))
    (refused-then c.args.at (at_recode (so_far_view c.args.schema.now.variables c.args.recodes.now) c.args.at (recode_line_of c.args.line.now) c.in-Some.variable (Some c.in-Some-find_key.i)) (with_all (so_far_view c.args.schema.now.variables c.args.recodes.now)) c.extend.result c.extend.ensures.refused)

-- a line of a new recode
new : (c : goal.After-begin) → and_recode c.args.at (so_far_view c.args.schema.now.variables c.args.recodes.now) (recode_line_of c.args.line.now)
    ≡ and_then (at_recode (so_far_view c.args.schema.now.variables c.args.recodes.now) c.args.at (recode_line_of c.args.line.now) c.in-Some.variable None) (with_all (so_far_view c.args.schema.now.variables c.args.recodes.now))
new c =
    line-goes (so_far_view c.args.schema.now.variables c.args.recodes.now) c.args.at (recode_line_of c.args.line.now) c.in-Some.variable (sym c.find_variable.ensures.place ∙ c.in-Some.is) None
    (name-place (variable_names c.args.schema.now.variables) c.as_bytes-in-None.result.now c.args.line.now.name.now c.find_variable-in-None.result None c.as_bytes-in-None.ensures.value c.find_variable-in-None.ensures.place (none_there c.find_variable-in-None.result (sym c.if-is_some.ensures)))
    (key-place c.args.recodes.now.entries c.as_bytes.result.now c.args.line.now.name.now c.find_key.result None c.as_bytes.ensures.value c.find_key.ensures.place c.in-None.is)

pub returns-else-is_some-clause-ok : goal.returns-else-is_some-clause-ok
returns-else-is_some-clause-ok c =
    on_ok_then c.begin.result c.begin.ensures.ok (λ h. new c ∙ ap (λ r. and_then r (with_all (so_far_view c.args.schema.now.variables c.args.recodes.now))) h)

pub returns-else-is_some-clause-refused : goal.returns-else-is_some-clause-refused
returns-else-is_some-clause-refused c =
    subst (λ (r : Result PartialValue SchemaKind). IfErr c.begin.result (λ e. e ≢ Memory → at_record c.args.at r ≡ Err e)) (sym (new c))
    (refused-then c.args.at (at_recode (so_far_view c.args.schema.now.variables c.args.recodes.now) c.args.at (recode_line_of c.args.line.now) c.in-Some.variable None) (with_all (so_far_view c.args.schema.now.variables c.args.recodes.now)) c.begin.result c.begin.ensures.refused)
