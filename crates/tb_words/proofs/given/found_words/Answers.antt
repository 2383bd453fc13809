use Rattle.std.proofs.Common.{◌∙◌, ap, map, string_bytes}
use Rattle.clap.specs.Words.{found_of, rows_of}
use Rattle.tb_words.proofs.Told.{found_by, ok_as}
use Rattle.tb_words.proofs.given.found_words.Goals as goal

pub returns : goal.returns
returns c =
    ok_as c.words_at.result (λ ws. map string_bytes ws.items) _ _ c.words_at.ensures
    (found_by c.args.matches.now c.in-Some.name.now (rows_of (found_of c.in-Some.found.now)) c.as_slice.result.now
    c.in-Some.ensures.name c.in-Some.ensures.rows (ap (map (λ s. s.now)) c.as_slice.ensures.value ∙ c.in_ok-positions.ensures))
