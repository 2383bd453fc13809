use Rattle.std.proofs.Common.{◌-◌, drop, take, length, arith}
use Rattle.std.proofs.lemmas.List.{length-drop, take_all}
use Rattle.tb_rows.proofs.CutTexts.{feed-found}
use Rattle.tb_rows.proofs.cutting.line_feed_from.Goals as goal

pub returns-in-Some : goal.returns-in-Some
returns-in-Some c =
    let text = c.args.text.now in
    let after = drop c.args.from text in
    feed-found text (take (length text - c.args.from) after) c.args.from c.in-Some.place (take_all (length text - c.args.from) after (omega (arith, length-drop c.args.from text))) c.if-from-text.false c.in-Some.ensures
