use Rattle.std.proofs.Common.{◌∙◌, ap, map, string_bytes}
use Rattle.tb_words.specs.Positions.{words_found}
use Rattle.tb_words.proofs.Told.{found_are, ok_as}
use Rattle.tb_words.proofs.given.told_words.Goals as goal

pub returns : goal.returns
returns c =
    ok_as c.found_words.result (λ ws. map string_bytes ws.items) _ _ c.found_words.ensures
    (ap words_found c.in-Ok.ensures.ok ∙ found_are (map (λ s. s.now) c.args.handed.now) c.requires)
