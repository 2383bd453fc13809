use Rattle.std.proofs.Common.{arith}
use Rattle.tb_base.specs.Parts.Part.{keys}
use Rattle.tb_base.proofs.TallyLemmas.{all-tallied, none-tallied, one-reduced, one-tallied}
use Rattle.tb_base.proofs.tallies.add_tallies.Goals as goal

pub loop-place-init : goal.loop-place-init
loop-place-init c = record {
  tallied = none-tallied c.args.cells.now c.args.places.now c.args.keys.now;
  reduced = λ i d below. absurd (omega (arith, below));
}

pub loop-place-preserved : goal.loop-place-preserved
loop-place-preserved c = record {
  tallied =
      one-tallied c.loop-place.place c.args.cells.now c.loop-place.cells c.args.places.now c.args.keys.now c.tally-more.result c.add.new.self c.loop-place.auto.cells (omega (arith, c.loop-place-test.true))
      c.tally-more.ensures c.add.ensures.parts c.loop-place.invariant.tallied;
  reduced = one-reduced c.loop-place.place c.loop-place.cells c.add.new.self _ (omega (arith, c.loop-place-test.true, c.loop-place.auto.cells)) (c.add.ensures.parts keys) c.loop-place.invariant.reduced;
}

pub returns-clause-tallied : goal.returns-clause-tallied
returns-clause-tallied c = all-tallied c.args.cells.now c.loop-place.cells c.args.places.now c.args.keys.now c.loop-place.place (omega (arith, c.loop-place-test.false, c.loop-place.auto.cells)) c.loop-place.invariant.tallied

pub returns-clause-reduced : goal.returns-clause-reduced
returns-clause-reduced c = λ i d below. c.loop-place.invariant.reduced i d (omega (arith, below, c.loop-place-test.false, c.loop-place.auto.cells))
