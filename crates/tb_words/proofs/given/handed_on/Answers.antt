use Rattle.std.proofs.Common.{◌∙◌, ap, [], map, string_bytes}
use Rattle.std.proofs.lemmas.List.{take_all}
use Rattle.tb_words.specs.Words.{handed}
use Rattle.tb_words.proofs.Built.{map_twice, one_more_value}
use Rattle.tb_words.proofs.given.handed_on.Goals as goal

pub loop-word-init : goal.loop-word-init
loop-word-init c = ap (map (λ s. s.now)) c.in_ok-handed.ensures.items

pub loop-word-preserved : goal.loop-word-preserved
loop-word-preserved c =
    one_more_value (λ s. s.now) (λ s. handed (string_bytes s)) [] c.loop-word.handed.items c.push.new.self.items c.handed_word-text.result
    c.args.words.now c.loop-word.word-index c.word-item.result c.in_ok-push.ensures.items
    c.loop-word-test.true c.loop-word.invariant
    (c.handed_word-text.ensures ∙ ap handed (c.as_str.ensures.value ∙ ap string_bytes c.word-item.is))

pub returns : goal.returns
returns c =
    c.loop-word.invariant ∙ ap (map (λ s. handed (string_bytes s))) (take_all c.loop-word.word-index c.args.words.now c.loop-word-test.false)
    ∙ map_twice handed string_bytes c.args.words.now
