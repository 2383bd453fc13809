use Rattle.std.proofs.Common.{◌∙◌, ap, refl, ℕ, List, [], ◌∷◌, ◌++◌, map, get_or, string_bytes, Bor}
use Rattle.std.proofs.lemmas.List.{take_all}
use Rattle.clap.specs.Words.{first_of, found_of, rows_of}
use Rattle.clap.proofs.WalkLemmas.{first_value-rows}
use Rattle.tb_words.specs.Positions.{value_at}
use Rattle.tb_words.proofs.Built.{one_more_value, value_or_none}
use Rattle.tb_words.proofs.given.words_at.Goals as goal

pub loop-position-init : goal.loop-position-init
loop-position-init c =
    ap (map string_bytes) c.in_ok-push.ensures.items
    ∙ ap (λ ws. map string_bytes (ws ++ c.in_ok-first.first ∷ [])) c.in_ok-words.ensures.items
    ∙ ap (λ t. t ∷ []) c.in_ok-first.ensures.ok

pub loop-position-preserved : goal.loop-position-preserved
loop-position-preserved c =
    let d : Bor (List ℕ) = record { ref_ptr = (0, 0); now = [] } in
    let found = found_of c.args.found.now in
    let name = (get_or c.args.positions.now c.loop-position.position-index d).now in
    one_more_value string_bytes (λ s. value_at (rows_of found) s.now) (c.args.name.now ∷ []) c.loop-position.words.items
    c.push-in-loop-position.new.self.items c.in_ok-word.word c.args.positions.now c.loop-position.position-index d
    c.in_ok-push-2.ensures.items c.loop-position-test.true c.loop-position.invariant
    (c.in_ok-word.ensures.ok ∙ ap (λ s. s.now) c.unwrap_or.ensures
    ∙ value_or_none c.get_str-value.result _ (first_of name (rows_of found)) (c.get_str-value.ensures ∙ first_value-rows found name) refl)

pub returns : goal.returns
returns c =
    let found = found_of c.args.found.now in
    c.loop-position.invariant
    ∙ ap (λ ps. c.args.name.now ∷ map (λ s. value_at (rows_of found) s.now) ps) (take_all c.loop-position.position-index c.args.positions.now c.loop-position-test.false)
