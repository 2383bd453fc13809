use Rattle.std.proofs.Common.{◌++◌, [], refl, ap, ◌∙◌, map}
use Rattle.std.specs.Prelude.{codes, decimal}
use Rattle.tb_model.specs.Rules.{pvalues_in}
use Rattle.tb_model.specs.Setups.{SetupValue}
use Rattle.tb_model.specs.Texts.{heading, line_text}
use Rattle.tb_text.specs.Lines.{entry_fields}
use Rattle.tb_text.proofs.PlaceLines.{text_of_parts}
use Rattle.tb_text.proofs.prepared.Prepared.of.Goals as goal

pub returns : goal.returns
returns c rules cells =
    let setup = c.args.setup.now in
    text_of_parts setup.schema (pvalues_in setup rules) rules.threshold c.args.number c.args.query.now cells c.in_ok-fields.fields.items
    [] [] (line_text (codes "release " ++ decimal c.args.number)) c.in_ok-waiting.waiting _ _
    refl refl (c.in_ok-fields.ensures ∙ ap (λ (s : SetupValue). map (entry_fields s.schema c.args.query.now) c.args.query.now.dimensions) c.setup.view_is) refl
    (c.in_ok-waiting.ensures ∙ ap (λ (s : SetupValue). line_text (codes "release " ++ decimal c.args.number) ++ heading s.schema c.args.query.now) c.setup.view_is)
    refl refl
