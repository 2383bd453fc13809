use Rattle.std.proofs.Common.{◌+◌, ◌++◌, refl, arith}
use Rattle.tb_io.proofs.FaultLemmas.{HasRisen-earlier}
use Rattle.tb_io.proofs.TakenLemmas.{Took-append, Took-nothing, TookPart-append, TookPart-longer}
use Rattle.tb_lanes.specs.Phases.{begun_with, phase_text}
use Rattle.tb_lanes.proofs.Continuing.{go_to_end}
use Rattle.tb_lanes.proofs.Going.{advanced, know_lines, one_more, owner_role, phase_goes, stand_first}
use Rattle.tb_model.specs.Schemas.{shape_of}
use Rattle.tb_session.specs.Parties.{seen_by, state_of}
use Rattle.tb_lanes.proofs.run.run_phases.Goals as goal

pub loop-before-init : goal.loop-before-init
loop-before-init g c = record {
  own = c.requires.own;
  analysts = c.requires.analysts;
  all = c.requires.all;
  count = omega arith;
  so_far = (begun_with (state_of c.args.own.now), refl, stand_first c.args.script.now c.args.own.now c.args.lanes.now, Took-nothing _);
}

pub loop-before-preserved : goal.loop-before-preserved
loop-before-preserved g c =
    let inv = c.loop-before.invariant in
    let (at, goes, stand, took) = inv.so_far in
    let base = (seen_by c.args.own.now).start.base in
    let phase = c.loop-before.before + 1 in
    let (texts, tell) = c.if-not-all_tell.ensures refl in
    let who = owner_role g.B.Named.name (shape_of c.args.setup.now.schema) c.loop-before.own inv.own in
    let (after, replies, phase_is, stands, behind, same) = phase_goes c.args.setup.now base c.args.script.now phase c.loop-before.own
    c.run_phase.new.own c.loop-before.lanes c.run_phase.new.lanes at.standing texts inv.all c.run_phase.ensures.ran stand tell who in
    let more = phase_text c.args.script.now phase texts in record {
      own = c.run_phase.ensures.own;
      analysts = c.run_phase.ensures.analysts;
      all = omega (arith, inv.all, c.run_phase.ensures.ran.same_length);
      count = omega (arith, inv.count, (c.write_phase.ensures texts tell).count);
      so_far = (
        advanced at more after,
        one_more c.args.setup.now base c.args.script.now c.loop-before.before (begun_with (state_of c.args.own.now)) at after more replies goes
            phase_is same,
        stands,
        Took-append _ _ _ at.text more took ((c.write_phase.ensures texts tell).all c.in-All.is),
      );
    }

pub write_phase-requires-clause-know : goal.write_phase-requires-clause-know
write_phase-requires-clause-know g c =
    know_lines c.args.setup.now c.args.script.now (c.loop-before.before + 1) c.loop-before.own c.run_phase.new.own c.loop-before.lanes
    c.run_phase.new.lanes c.run_phase.ensures.ran

pub returns-in-Failed-clause-count : goal.returns-in-Failed-clause-count
returns-in-Failed-clause-count g c =
    let (texts, tell) = c.if-not-all_tell.ensures refl in omega (arith, c.loop-before.invariant.count, (c.write_phase.ensures texts tell).count)

pub returns-in-Failed-clause-failed : goal.returns-in-Failed-clause-failed
returns-in-Failed-clause-failed g c = λ _.
    let (texts, tell) = c.if-not-all_tell.ensures refl in
    HasRisen-earlier (g.K.Sink.faults c.args.sink.now) (g.K.Sink.faults c.loop-before.sink) (g.K.Sink.faults c.write_phase.new.sink)
    c.loop-before.invariant.count ((c.in-Failed.ensures texts tell).failed refl) (c.write_phase.ensures texts tell).count

pub returns-in-Failed-clause-run : goal.returns-in-Failed-clause-run
returns-in-Failed-clause-run g c =
    let inv = c.loop-before.invariant in
    let (at, goes, stand, took) = inv.so_far in
    let base = (seen_by c.args.own.now).start.base in
    let phase = c.loop-before.before + 1 in
    let (texts, tell) = c.if-not-all_tell.ensures refl in
    let who = owner_role g.B.Named.name (shape_of c.args.setup.now.schema) c.loop-before.own inv.own in
    let (after, replies, phase_is, stands, behind, same) = phase_goes c.args.setup.now base c.args.script.now phase c.loop-before.own
    c.run_phase.new.own c.loop-before.lanes c.run_phase.new.lanes at.standing texts inv.all c.run_phase.ensures.ran stand tell who in
    let more = phase_text c.args.script.now phase texts in
    let first = begun_with (state_of c.args.own.now) in
    let so_far = one_more c.args.setup.now base c.args.script.now c.loop-before.before first at after more replies goes phase_is same in
    let (rest, last, whole) = go_to_end c.args.setup.now base c.args.script.now phase c.args.script.now.phases first (advanced at more after)
    (omega arith) behind so_far in (
      advanced (advanced at more after) rest last,
      whole,
      TookPart-longer _ _ (at.text ++ more) rest
          (TookPart-append _ _ _ at.text more took ((c.write_phase.ensures texts tell).part c.in-Failed.is)),
    )

pub returns-then-not-all_tell-clause-run : goal.returns-then-not-all_tell-clause-run
returns-then-not-all_tell-clause-run g c =
    let (at, goes, stand, took) = c.loop-before.invariant.so_far in (c.loop-before.before, at, omega arith, goes, took)
