use Rattle.std.proofs.Common.{ℕ, ◌+◌, ◌-◌, ◌/◌, ◌<◌, length, get_or, ◌∙◌, arith}
use Rattle.tb_cube.proofs.Packed.{above-middle, below-middle, found-middle, halved, no_kept, none-left}
use Rattle.tb_cube.proofs.packing.cell_in.Goals as goal

pub returns-then-one-place : goal.returns-then-one-place
returns-then-one-place c =
    let m : ℕ = c.loop-low.low + (c.loop-low.high - c.loop-low.low) / 2 in
    let below : m < length c.args.kept.now = omega (arith, halved c.loop-low.low c.loop-low.high c.loop-low-test.true, c.loop-low.invariant.within) in
    found-middle c.args.kept.now m c.args.place no_kept c.requires below c.if-one-place.true

pub loop-low-preserved-then-one-place-2 : goal.loop-low-preserved-then-one-place-2
loop-low-preserved-then-one-place-2 c =
    let m : ℕ = c.loop-low.low + (c.loop-low.high - c.loop-low.low) / 2 in
    let half : m < c.loop-low.high = halved c.loop-low.low c.loop-low.high c.loop-low-test.true in
    let below : m < length c.args.kept.now = omega (arith, half, c.loop-low.invariant.within) in
    record {
      order = omega (arith, half);
      within = c.loop-low.invariant.within;
      before = below-middle c.args.kept.now m c.args.place no_kept c.requires below c.if-one-place-2.true;
      after = c.loop-low.invariant.after;
    }

pub loop-low-preserved : goal.loop-low-preserved
loop-low-preserved c =
    let m : ℕ = c.loop-low.low + (c.loop-low.high - c.loop-low.low) / 2 in
    let half : m < c.loop-low.high = halved c.loop-low.low c.loop-low.high c.loop-low-test.true in
    let below : m < length c.args.kept.now = omega (arith, half, c.loop-low.invariant.within) in
    let more : c.args.place < (get_or c.args.kept.now m no_kept).place = omega (arith, c.if-one-place.false, c.if-one-place-2.false) in
    record {
      order = omega arith;
      within = omega (arith, below);
      before = c.loop-low.invariant.before;
      after = above-middle c.args.kept.now m c.args.place no_kept c.requires below more;
    }

pub returns : goal.returns
returns c =
    c.empty.ensures ∙ none-left c.args.kept.now c.loop-low.low c.loop-low.high c.args.place (omega (arith, c.loop-low-test.false)) c.loop-low.invariant.before c.loop-low.invariant.after
