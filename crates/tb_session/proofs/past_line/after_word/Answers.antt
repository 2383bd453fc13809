use Rattle.std.proofs.Common.{◌≡◌, ◌≤◌, ℕ, List, length, rules, subst, sym}
use Rattle.tb_session.specs.PastLines.{after_word}
use Rattle.tb_session.proofs.PastTexts.{word_le}
use Rattle.tb_session.proofs.past_line.after_word.Goals as goal

pub returns-clause-shorter : goal.returns-clause-shorter
returns-clause-shorter c =
    let is : c.split_at.result.1.now ≡ after_word c.args.text.now = search rules in
    subst (λ (t : List ℕ). length t ≤ length c.args.text.now) (sym is) (word_le c.args.text.now)
