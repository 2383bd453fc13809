use Rattle.std.proofs.Common.{◌∙◌, ap, ℕ, List, [], fold, map, Bor}
use Rattle.std.proofs.lemmas.List.{take_all}
use Rattle.tb_words.specs.Positions.{with_position}
use Rattle.clap.specs.Words.{app_of, new_app, with_rule}
use Rattle.tb_words.proofs.Built.{one_more_place}
use Rattle.tb_words.proofs.positions.command.Goals as goal

pub loop-place-init : goal.loop-place-init
loop-place-init c = c.new-command.ensures.app

pub loop-place-preserved : goal.loop-place-preserved
loop-place-preserved c =
    let d : Bor (List ℕ) = record { ref_ptr = (0, 0); now = [] } in
    one_more_place c.args.places.now c.loop-place.place-index d (new_app c.args.name.now) (app_of c.loop-place.command)
    (app_of c.in_ok-command.command) c.loop-place-test.true c.loop-place.invariant
    (c.in_ok-command.ensures.shape c.position-one.ensures.local
    ∙ ap (with_rule (app_of c.loop-place.command)) c.position-one.ensures.rule)

pub returns : goal.returns
returns c =
    let start = new_app c.args.name.now in
    c.loop-place.invariant
    ∙ ap (λ ps. fold with_position start (map (λ s. s.now) ps)) (take_all c.loop-place.place-index c.args.places.now c.loop-place-test.false)
