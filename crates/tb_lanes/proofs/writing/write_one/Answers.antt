use Rattle.std.proofs.Common.{◌∙◌, ap, sym, ◌++◌, List, ℕ, arith}
use Rattle.tb_io.proofs.TakenLemmas.{Took-nothing}
use Rattle.tb_io.proofs.Written.{all_written, written_as}
use Rattle.tb_lanes.specs.Phases.{lane_at, lane_line, lines_at}
use Rattle.tb_lanes.proofs.Texts.{says_nothing, says_text}
use Rattle.tb_lanes.proofs.writing.write_one.Goals as goal

pub returns-then-not-lane : goal.returns-then-not-lane
returns-then-not-lane g c = λ text tells.
    let script = c.args.script.now in
    let none = sym c.requires.knows ∙ c.if-not-lane.true in
    written_as (says_nothing (lane_at script c.args.n) (lines_at script c.args.phase c.args.n) text none)
    (all_written _ _ _ _ _ (omega arith) (Took-nothing _))

pub returns : goal.returns
returns g c = λ text tells.
    let script = c.args.script.now in
    let some = sym c.requires.knows ∙ c.if-not-lane.false in
    let name = c.as_bytes.ensures.value ∙ c.lane_name.ensures in
    let said = c.text_in-text.ensures text tells in
    written_as
    (ap (λ (l : List ℕ). lane_line l ++ c.text_in-text.result.now) name ∙ ap (λ (t : List ℕ). lane_line (lane_at script c.args.n) ++ t) said
    ∙ says_text (lane_at script c.args.n) (lines_at script c.args.phase c.args.n) text some)
    c.write_lane.ensures
