use Rattle.std.proofs.Common.{◌∙◌, rules}
use Rattle.std.proofs.lemmas.Iterator.{YieldsList-from_slice}
use Rattle.std.proofs.lemmas.Iterator.Search.{position_from_yields_List}
use Rattle.tb_base.specs.Bytes.{is_blank}
use Rattle.tb_base.proofs.WordLemmas.{place-or-length}
use Rattle.tb_base.proofs.bytes.blank_at.Goals as goal

pub returns-clause-place : goal.returns-clause-place
returns-clause-place c =
    c.unwrap_or.ensures ∙ place-or-length is_blank c.args.text.now c.position.result
    (position_from_yields_List is_blank _ _ _ c.position.ensures.ran (YieldsList-from_slice c.args.text.now cc)
    (λ x b q k. search rules))
