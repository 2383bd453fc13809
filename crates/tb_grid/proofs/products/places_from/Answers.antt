use Rattle.std.proofs.Common.{◌-◌, arith}
use Rattle.tb_grid.proofs.Factors.{one-factor, product-drop-le}
use Rattle.tb_grid.proofs.products.places_from.Goals as goal

pub overflow_mul-places : goal.overflow_mul-places
overflow_mul-places c =
    let same = one-factor c.args.sizes.now c.loop-d.d c.loop-d.places (omega arith) c.loop-d.invariant.within c.loop-d.invariant.places in
    omega (arith, same, product-drop-le c.args.sizes.now (c.loop-d.d - 1) c.requires.some)

pub loop-d-preserved : goal.loop-d-preserved
loop-d-preserved c = record {
  within = omega arith;
  from = omega arith;
  places = one-factor c.args.sizes.now c.loop-d.d c.loop-d.places (omega arith) c.loop-d.invariant.within c.loop-d.invariant.places;
}

pub returns-clause-few : goal.returns-clause-few
returns-clause-few c = omega (arith, product-drop-le c.args.sizes.now c.loop-d.d c.requires.some)
