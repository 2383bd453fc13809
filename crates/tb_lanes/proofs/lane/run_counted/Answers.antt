use Rattle.std.proofs.Common.{◌≡◌, ◌<◌, ◌≤◌, ℕ, List, [], Option, Some, false, sym, subst, length, arith}
use Rattle.tb_lanes.specs.Lanes.{Ran}
use Rattle.tb_lanes.specs.Phases.{lane_at}
use Rattle.tb_model.specs.Setups.{SetupValue}
use Rattle.tb_script.specs.Scripts.{nth_line}
use Rattle.tb_session.specs.declared.party.Party.{Party}
use Rattle.tb_lanes.proofs.Answering.{line_of_lane, line_of_other}
use Rattle.tb_lanes.proofs.Lanes.{ran_as, ran_none}
use Rattle.tb_lanes.proofs.LineLemmas.{all_there, none_yet}
use Rattle.tb_lanes.proofs.lane.run_counted.Goals as goal
use Rattle.tb_lanes.proofs.lane.run_counted.Goals.{then-lane_number-n, else-lane_number-n}

-- no line yet, into a sink that is empty
begun : (setup : SetupValue) (lines : List (List ℕ)) (p : Party) (sink : Option (List ℕ)) → sink ≡ Some [] → lines ≡ [] → Ran setup lines p sink false p
begun setup lines p sink empty none = subst (λ (o : Option (List ℕ)). Ran setup lines p o false p) (sym empty) (ran_none setup lines p none)

pub loop-i-init : goal.loop-i-init
loop-i-init g c = record {
  own = c.requires.own;
  later = λ j le lt. omega (arith, c.lines_up_to-i.ensures.rest j le lt, c.requires.phase);
  ran = begun c.args.setup.now _ c.args.lane.now.party c.new.result c.new.ensures
      (none_yet c.args.script.now c.args.phase (lane_at c.args.script.now c.args.n) c.lines_up_to-i.result
      (λ j lt. omega (arith, c.lines_up_to-i.ensures.within j lt, c.requires.phase)));
}

pub loop-i-preserved : goal.loop-i-preserved
loop-i-preserved g c =
    let inv = c.loop-i.invariant in
    let script = c.args.script.now in
    let i = c.loop-i.i in
    let lt : i < length script.lines = omega (arith, c.loop-i-test.true, c.lines_up_to-i-end.ensures.few) in
    let from : c.args.phase ≤ (nth_line script i).phase = inv.later i (omega arith) lt in
    let upto : (nth_line script i).phase ≤ c.args.phase = c.lines_up_to-i-end.ensures.within i c.loop-i-test.true in
    let here : (nth_line script i).phase ≡ c.args.phase = omega (arith, from, upto) in
    elim c.if-lane_number-n.branch [
      | then-lane_number-n w ↦ rw w.lane-is (record {
        own = w.answer_line.ensures.own;
        later = λ j le below. inv.later j (omega (arith, le)) below;
        ran = line_of_lane c.args.setup.now script c.args.phase c.args.n i c.args.lane.now.party w.line.result.now
            c.lane_number.result c.loop-i.lane w.answer_line.new.lane lt here c.lane_number.ensures.name w.if-lane_number-n.true
            w.line.ensures.bytes inv.ran w.answer_line.ensures.answered w.answer_line.ensures.spoke;
      })
      | else-lane_number-n w ↦ rw w.lane-is (record {
        own = inv.own;
        later = λ j le below. inv.later j (omega (arith, le)) below;
        ran = line_of_other c.args.setup.now script c.args.phase c.args.n i c.args.lane.now.party c.lane_number.result c.loop-i.lane
            lt c.lane_number.ensures.few c.requires.there c.lane_number.ensures.name w.if-lane_number-n.false inv.ran;
      })
    ]

pub returns-clause-run : goal.returns-clause-run
returns-clause-run g c =
    ran_as c.args.setup.now _ _ c.args.lane.now.party c.loop-i.lane.party c.loop-i.lane.sink c.loop-i.lane.spoke
    (all_there c.args.script.now c.args.phase (lane_at c.args.script.now c.args.n) c.loop-i.i
    (λ j le lt. c.lines_up_to-i-end.ensures.rest j (omega (arith, le, c.loop-i-test.false)) lt)) c.loop-i.invariant.ran
