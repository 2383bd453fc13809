use Rattle.std.proofs.Common.{◌∙◌, ap, sym}
use Rattle.std.specs.Prelude.{bytes_eq}
use Rattle.tb_schema.proofs.Guessed.{guessed}
use Rattle.tb_schema.proofs.guesses.Guesses.find.Goals as goal

pub returns-in-Some-clause-place : goal.returns-in-Some-clause-place
returns-in-Some-clause-place g c =
    let same = sym (c.if-eq.ensures ∙ ap (bytes_eq c.args.text.now) c.as_bytes.ensures.value) in
    sym (guessed c.args.map.now.entries c.args.text.now c.guess-place.result (c.in-Some.key.now, c.in-Some.field-0-1.now) c.requires (sym c.in-Some.ensures.entry) same)
