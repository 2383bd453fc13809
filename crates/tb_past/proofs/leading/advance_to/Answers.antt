use Rattle.std.proofs.Common.{◌≡◌, refl, arith}
use Rattle.std.specs.Prelude.{Some, slice_get}
use Rattle.tb_release.specs.Revised.{release_at}
use Rattle.tb_past.proofs.Along.{can_go_on, fits_cube, goes_on, one_more_count}
use Rattle.tb_past.proofs.leading.advance_to.Goals as goal

pub loop-i-init : goal.loop-i-init
loop-i-init g c = record { cube = λ base is. is.counted; charge = refl }

pub advance-requires-clause-release : goal.advance-requires-clause-release
advance-requires-clause-release g c =
    let one = c.requires.cube in (
      release_at one.0 c.args.batches.now c.loop-i.i,
      can_go_on c.args.cube.now c.loop-i.cube one.0 c.args.batches.now c.loop-i.i c.deref.result.now one.1.revised (rw c.deref.ensures c.at.ensures) (c.loop-i.invariant.cube one.0 one.1),
    )

pub advance-requires-clause-fit : goal.advance-requires-clause-fit
advance-requires-clause-fit g c =
    let one = c.requires.cube in
    fits_cube c.args.cube.now c.loop-i.cube one.0 c.args.batches.now c.loop-i.i c.loop-i.i c.deref.result.now one.1.revised (rw c.deref.ensures c.at.ensures) (c.loop-i.invariant.cube one.0 one.1)

pub loop-i-preserved : goal.loop-i-preserved
loop-i-preserved g c = record {
  cube = λ base is.
      let here = c.loop-i.invariant.cube base is in
      let at : slice_get c.args.batches.now c.loop-i.i ≡ Some c.deref.result.now = rw c.deref.ensures c.at.ensures in
      goes_on c.args.cube.now c.loop-i.cube c.advance.new.cube base c.args.batches.now c.loop-i.i c.deref.result.now is.revised at here
      (c.advance.ensures.cube (release_at base c.args.batches.now c.loop-i.i)
      (can_go_on c.args.cube.now c.loop-i.cube base c.args.batches.now c.loop-i.i c.deref.result.now is.revised at here));
  charge =
      let more = one_more_count c.args.batches.now c.loop-i.i c.deref.result.now (rw c.deref.ensures c.at.ensures) in
      let so_far = c.loop-i.invariant.charge in
      let charged = c.advance.ensures.charge in
      omega (arith, more, so_far, charged);
}
