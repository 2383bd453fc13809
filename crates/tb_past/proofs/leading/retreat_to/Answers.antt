use Rattle.std.proofs.Common.{◌≡◌, ◌+◌, ◌-◌, ℕ, take, subst}
use Rattle.std.specs.Prelude.{Some, slice_get}
use Rattle.tb_release.specs.Chains.{change_count}
use Rattle.tb_release.specs.Revised.{release_at}
use Rattle.tb_past.proofs.Along.{IsAt, back_at_first, can_go_back, count_at_first, count_back, fits_cube, goes_back, last_left, next_left, none_left}
use Rattle.tb_past.proofs.leading.retreat_to.Goals as goal

pub loop-i-init : goal.loop-i-init
loop-i-init g c = record {
  cube = λ base is k all. back_at_first c.args.cube.now c.args.cube.now base c.args.batches.now c.args.from k all is.counted;
  charge = λ k all. count_at_first c.args.batches.now c.args.from k c.args.steps.now all;
}

pub retreat-requires-clause-release : goal.retreat-requires-clause-release
retreat-requires-clause-release g c =
    let one = c.requires.cube in
    let at : ℕ = c.args.from - 1 - c.loop-i.i in (
      release_at one.0 c.args.batches.now at,
      can_go_back c.args.cube.now c.loop-i.cube one.0 c.args.batches.now at c.deref.result.now one.1.revised (rw c.deref.ensures c.at.ensures)
          (c.loop-i.invariant.cube one.0 one.1 (at + 1) (last_left c.args.from c.args.to c.loop-i.i c.requires.down c.loop-i-test.true)),
    )

pub retreat-requires-clause-fit : goal.retreat-requires-clause-fit
retreat-requires-clause-fit g c =
    let one = c.requires.cube in
    let at : ℕ = c.args.from - 1 - c.loop-i.i in
    fits_cube c.args.cube.now c.loop-i.cube one.0 c.args.batches.now (at + 1) at c.deref.result.now one.1.revised (rw c.deref.ensures c.at.ensures)
    (c.loop-i.invariant.cube one.0 one.1 (at + 1) (last_left c.args.from c.args.to c.loop-i.i c.requires.down c.loop-i-test.true))

pub loop-i-preserved : goal.loop-i-preserved
loop-i-preserved g c =
    let at : ℕ = c.args.from - 1 - c.loop-i.i in
    let here : slice_get c.args.batches.now at ≡ Some c.deref.result.now = rw c.deref.ensures c.at.ensures in
    let all : at + 1 + c.loop-i.i ≡ c.args.from = last_left c.args.from c.args.to c.loop-i.i c.requires.down c.loop-i-test.true in record {
      cube = λ base is k left.
          let was = c.loop-i.invariant.cube base is (at + 1) all in
          subst (λ n. IsAt c.args.cube.now base c.args.batches.now n c.retreat.new.cube) (next_left c.args.from c.args.to c.loop-i.i k c.requires.down c.loop-i-test.true left)
          (goes_back c.args.cube.now c.loop-i.cube c.retreat.new.cube base c.args.batches.now at was
          (c.retreat.ensures.cube (release_at base c.args.batches.now at)
          (can_go_back c.args.cube.now c.loop-i.cube base c.args.batches.now at c.deref.result.now is.revised here was)));
      charge = λ k left.
          count_back c.args.batches.now at k c.args.steps.now c.loop-i.steps c.retreat.new.steps (change_count (take c.args.from c.args.batches.now)) c.deref.result.now
          (next_left c.args.from c.args.to c.loop-i.i k c.requires.down c.loop-i-test.true left) here (c.loop-i.invariant.charge (at + 1) all) c.retreat.ensures.charge;
    }

pub returns-clause-cube : goal.returns-clause-cube
returns-clause-cube g c = λ base is.
    c.loop-i.invariant.cube base is c.args.to (none_left c.args.from c.args.to c.loop-i.i c.requires.down c.loop-i.auto.i-end c.loop-i-test.false)

pub returns-clause-charge : goal.returns-clause-charge
returns-clause-charge g c = c.loop-i.invariant.charge c.args.to (none_left c.args.from c.args.to c.loop-i.i c.requires.down c.loop-i.auto.i-end c.loop-i-test.false)
