use Rattle.std.proofs.Common.{◌∙◌, not, rules}
use Rattle.std.proofs.lemmas.Iterator.{YieldsList-from_slice}
use Rattle.std.proofs.lemmas.Iterator.Search.{position_from_yields_List}
use Rattle.tb_base.proofs.WordLemmas.{place-or-length}
use Rattle.tb_query.specs.Bytes.{is_word_byte}
use Rattle.tb_query.proofs.tokens.word_len.Goals as goal

pub returns-clause-count : goal.returns-clause-count
returns-clause-count c =
    c.unwrap_or.ensures ∙ place-or-length (λ b. not (is_word_byte b)) c.args.bytes.now c.position.result
    (position_from_yields_List (λ b. not (is_word_byte b)) _ _ _ c.position.ensures.ran (YieldsList-from_slice c.args.bytes.now cc)
    (λ x b q k. search rules))
