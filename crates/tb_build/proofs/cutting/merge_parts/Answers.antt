use Rattle.std.proofs.Common.{◌∙◌, sym, ap}
use Rattle.tb_cube.specs.Cubes.{CubeValue}
use Rattle.tb_build.specs.Parts.{records_in}
use Rattle.tb_build.proofs.PartLemmas.{cube-of-part, merged-on, room-part}
use Rattle.tb_build.proofs.cutting.merge_parts.Goals as goal

pub merge-requires-clause-dense : goal.merge-requires-clause-dense
merge-requires-clause-dense c = ap (λ (cube : CubeValue). cube.dense) c.loop-other.invariant

pub merge-requires-clause-other : goal.merge-requires-clause-other
merge-requires-clause-other c =
    let here = cube-of-part c.args.cubes.now c.other-item.result c.args.cube.now.shape c.args.cube.now.vars (records_in c.args.lent.now) c.args.size c.loop-other.other-index c.loop-other-test.true c.requires.cubes c.other-item.is in
    ap (λ (cube : CubeValue). cube.dense) here

pub merge-requires-clause-shape : goal.merge-requires-clause-shape
merge-requires-clause-shape c =
    let here = cube-of-part c.args.cubes.now c.other-item.result c.args.cube.now.shape c.args.cube.now.vars (records_in c.args.lent.now) c.args.size c.loop-other.other-index c.loop-other-test.true c.requires.cubes c.other-item.is in
    ap (λ (cube : CubeValue). cube.shape) here ∙ sym (ap (λ (cube : CubeValue). cube.shape) c.loop-other.invariant)

pub merge-requires-clause-vars : goal.merge-requires-clause-vars
merge-requires-clause-vars c =
    let here = cube-of-part c.args.cubes.now c.other-item.result c.args.cube.now.shape c.args.cube.now.vars (records_in c.args.lent.now) c.args.size c.loop-other.other-index c.loop-other-test.true c.requires.cubes c.other-item.is in
    ap (λ (cube : CubeValue). cube.vars) here ∙ sym (ap (λ (cube : CubeValue). cube.vars) c.loop-other.invariant)

pub merge-requires-clause-room : goal.merge-requires-clause-room
merge-requires-clause-room c =
    let here = cube-of-part c.args.cubes.now c.other-item.result c.args.cube.now.shape c.args.cube.now.vars (records_in c.args.lent.now) c.args.size c.loop-other.other-index c.loop-other-test.true c.requires.cubes c.other-item.is in
    room-part c.loop-other.cube c.other-item.result c.args.cube.now.shape c.args.cube.now.vars (records_in c.args.lent.now) c.args.size c.loop-other.other-index c.loop-other.invariant here c.requires.few

pub loop-other-preserved : goal.loop-other-preserved
loop-other-preserved c =
    let here = cube-of-part c.args.cubes.now c.other-item.result c.args.cube.now.shape c.args.cube.now.vars (records_in c.args.lent.now) c.args.size c.loop-other.other-index c.loop-other-test.true c.requires.cubes c.other-item.is in
    merged-on c.loop-other.cube c.other-item.result c.merge.new.self c.args.cube.now.shape c.args.cube.now.vars (records_in c.args.lent.now) c.args.size c.loop-other.other-index c.loop-other.invariant here c.merge.ensures.cells
