use Rattle.std.proofs.Common.{◌∙◌, ap, map, string_bytes, subst, sym}
use Rattle.tb_words.specs.Words.{AreCommand}
use Rattle.tb_words.proofs.Tested.{tested}
use Rattle.tb_words.proofs.given.in_positions.Goals as goal

pub told_words-requires : goal.told_words-requires
told_words-requires c =
    subst AreCommand (sym (ap (map (λ s. s.now)) c.as_slice.ensures.value ∙ c.in_ok-handed.ensures))
    (tested (map string_bytes c.args.words.now) c.requires)

pub returns : goal.returns
returns c =
    rw (ap (map (λ s. s.now)) c.as_slice.ensures.value ∙ c.in_ok-handed.ensures) at c.told_words.ensures
