use Rattle.std.proofs.Common.{take, arith}
use Rattle.std.specs.Arc.{arc_value}
use Rattle.tb_release.specs.Chains.{release_after}
use Rattle.tb_core.proofs.LeadLemmas.{advanced, can_advance, changes_fit, one_more_count, start_is}
use Rattle.tb_core.proofs.cubes.advance_along.Goals as goal

pub loop-i-init : goal.loop-i-init
loop-i-init g c = record {
  cube = λ release can. start_is c.args.cube.now c.args.pending.now release can;
  charge = omega arith;
}

pub advance-requires-clause-release : goal.advance-requires-clause-release
advance-requires-clause-release g c =
    let from = c.requires.0 in (
      release_after from (take c.loop-i.i c.args.pending.now),
      rw c.deref.ensures (can_advance c.args.cube.now c.loop-i.cube c.args.pending.now from c.loop-i.i (arc_value c.at.result.now) c.requires.1 c.at.ensures (c.loop-i.invariant.cube from c.requires.1)),
    )

pub advance-requires-clause-fit : goal.advance-requires-clause-fit
advance-requires-clause-fit g c =
    let from = c.requires.0 in
    rw c.deref.ensures (changes_fit c.args.cube.now c.loop-i.cube c.args.pending.now from c.loop-i.i (arc_value c.at.result.now) c.requires.1 c.at.ensures (c.loop-i.invariant.cube from c.requires.1))

pub loop-i-preserved : goal.loop-i-preserved
loop-i-preserved g c = record {
  cube = λ release can.
      let here = c.loop-i.invariant.cube release can in
      let leads = can_advance c.args.cube.now c.loop-i.cube c.args.pending.now release c.loop-i.i (arc_value c.at.result.now) can c.at.ensures here in
      advanced c.args.cube.now c.loop-i.cube c.advance.new.cube c.args.pending.now release c.loop-i.i c.deref.result.now (rw c.deref.ensures c.at.ensures) here
      (c.advance.ensures.cube (release_after release (take c.loop-i.i c.args.pending.now)) (rw c.deref.ensures leads));
  charge =
      let more = one_more_count c.args.pending.now c.loop-i.i c.deref.result.now (rw c.deref.ensures c.at.ensures) in
      let so_far = c.loop-i.invariant.charge in
      let charged = c.advance.ensures.charge in
      omega (arith, more, so_far, charged);
}
