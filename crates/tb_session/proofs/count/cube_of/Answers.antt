use Rattle.std.proofs.Common.{◌≡◌, arith, subst, sym}
use Rattle.std.specs.Prelude.{IfOk}
use Rattle.tb_core.specs.Desks.{HasCube}
use Rattle.tb_core.specs.Got.{cube_got}
use Rattle.tb_core.specs.Takes.{IsTaken, release_in}
use Rattle.tb_cube.specs.Cubes.{cube_over}
use Rattle.tb_core.proofs.TakeLemmas.{cost_found, few_pending, release_fits, shape_found}
use Rattle.tb_session.proofs.count.cube_of.Goals as goal

pub build-requires-clause-fit : goal.build-requires-clause-fit
build-requires-clause-fit g c = λ κs lives.
    let t = c.requires.taken in rw c.deref.ensures (release_fits c.args.shape.now t.0 t.1 c.args.vars.now c.args.taken.now t.2)

pub returns-in-Some-clause-price : goal.returns-in-Some-clause-price
returns-in-Some-clause-price g c =
    let t = c.requires.taken in
    let few = few_pending c.args.shape.now t.0 t.1 c.args.vars.now c.args.taken.now t.2 c.in-Some.hit c.in-Some.is in
    let cost = cost_found c.args.shape.now t.0 t.1 c.args.vars.now c.args.taken.now t.2 c.in-Some.hit c.in-Some.is in
    omega (arith, few, cost, c.lead_on.ensures.price)

pub returns-in-Some-clause-cube : goal.returns-in-Some-clause-cube
returns-in-Some-clause-cube g c =
    let t = c.requires.taken in
    let shape = shape_found c.args.shape.now t.0 t.1 c.args.vars.now c.args.taken.now t.2 c.in-Some.hit c.in-Some.is in
    subst (λ s. IfOk c.lead_on.result (λ got. cube_got got ≡ cube_over s c.args.vars.now (release_in c.args.taken.now).records)) shape c.lead_on.ensures.cube

pub lead_on-requires-clause-has : goal.lead_on-requires-clause-has
lead_on-requires-clause-has g c =
    let t = c.requires.taken in
    let shape = shape_found c.args.shape.now t.0 t.1 c.args.vars.now c.args.taken.now t.2 c.in-Some.hit c.in-Some.is in
    subst (λ s. HasCube s c.args.vars.now) (sym shape) c.requires.has

pub lead_on-requires-clause-taken : goal.lead_on-requires-clause-taken
lead_on-requires-clause-taken g c =
    let t = c.requires.taken in
    let shape = shape_found c.args.shape.now t.0 t.1 c.args.vars.now c.args.taken.now t.2 c.in-Some.hit c.in-Some.is in
    (t.0, t.1, subst (λ s. IsTaken s t.0 t.1 c.args.vars.now c.args.taken.now) (sym shape) t.2)
