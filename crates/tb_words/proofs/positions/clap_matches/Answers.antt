use Rattle.clap.specs.Words.{app_of}
use Rattle.tb_words.proofs.Told.{passes_as, rows_are}
use Rattle.tb_words.proofs.positions.clap_matches.Goals as goal

pub returns-clause-ok : goal.returns-clause-ok
returns-clause-ok c = rows_are _ (app_of c.in_ok-program.program) _ c.in_ok-program.ensures c.try_get_matches_from.ensures.matches

pub returns-clause-err : goal.returns-clause-err
returns-clause-err c = passes_as _ (app_of c.in_ok-program.program) _ c.in_ok-program.ensures c.requires c.try_get_matches_from.ensures.passes
