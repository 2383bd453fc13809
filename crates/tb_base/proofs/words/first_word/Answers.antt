use Rattle.std.proofs.Common.{arith}
use Rattle.tb_base.proofs.WordLemmas.{cut_at, no_words}
use Rattle.tb_base.proofs.words.first_word.Goals as goal

pub returns-then-is_empty-clause-word : goal.returns-then-is_empty-clause-word
returns-then-is_empty-clause-word c = no_words c.args.text.now c.skip_blanks-rest.result.now c.skip_blanks-rest.ensures (grind arith)

pub returns-clause-word : goal.returns-clause-word
returns-clause-word c =
    (cut_at c.args.text.now c.skip_blanks-rest.result.now c.blank_at.result _ _ c.skip_blanks-rest.ensures
    (grind arith) c.blank_at.ensures.place c.split_at.ensures.front c.split_at.ensures.back).words

pub returns-clause-shorter : goal.returns-clause-shorter
returns-clause-shorter c =
    (cut_at c.args.text.now c.skip_blanks-rest.result.now c.blank_at.result _ _ c.skip_blanks-rest.ensures
    (grind arith) c.blank_at.ensures.place c.split_at.ensures.front c.split_at.ensures.back).shorter
