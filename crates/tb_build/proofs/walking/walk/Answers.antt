use Rattle.std.proofs.Common.{◌≡◌, ◌<◌, [], ap, length, get_or, arith}
use Rattle.std.proofs.lemmas.List.Folds.{length-flat_map-take}
use Rattle.tb_base.specs.Records.{Fits}
use Rattle.tb_base.specs.declared.records.Record.{Record}
use Rattle.std.specs.Prelude.{List}
use Rattle.tb_cube.specs.Cubes.{CubeValue}
use Rattle.tb_delta.proofs.Pieces.{All-piece}
use Rattle.tb_build.proofs.PartLemmas.{All-between, records-more, room-for, walked-on}
use Rattle.std.proofs.Common.{length-append, ◌∙◌}
use Rattle.tb_build.proofs.walking.walk.Goals as goal

pub add_piece-requires-clause-dense : goal.add_piece-requires-clause-dense
add_piece-requires-clause-dense c = ap (λ (cube : CubeValue). cube.dense) c.loop-i.invariant.cube

pub add_piece-requires-clause-fit : goal.add_piece-requires-clause-fit
add_piece-requires-clause-fit c =
    let shape : c.loop-i.cube.shape ≡ c.args.cube.now.shape = ap (λ (cube : CubeValue). cube.shape) c.loop-i.invariant.cube in
    let below : c.loop-i.i < length c.args.lent.now = omega (arith, c.loop-i-test.true, c.pieces-i-end.ensures) in
    rw (shape, c.piece-piece.ensures) (All-between (Fits c.args.cube.now.shape) _ _ _ (All-piece (Fits c.args.cube.now.shape) c.args.lent.now c.loop-i.i below c.requires.fit))

pub add_piece-requires-clause-room : goal.add_piece-requires-clause-room
add_piece-requires-clause-room c =
    let below : c.loop-i.i < length c.args.lent.now = omega (arith, c.loop-i-test.true, c.pieces-i-end.ensures) in
    rw (c.saturating_sub.ensures, c.saturating_sub-in-loop-i.ensures)
    (room-for c.loop-i.cube c.args.cube.now.shape c.args.cube.now.vars c.args.lent.now c.loop-i.i c.loop-i.before c.args.from c.args.to c.piece-piece.result.now below c.piece-piece.ensures c.loop-i.invariant.cube c.requires.few)

pub overflow_add-before : goal.overflow_add-before
overflow_add-before c =
    let below : c.loop-i.i < length c.args.lent.now = omega (arith, c.loop-i-test.true, c.pieces-i-end.ensures) in
    omega (arith, length-flat_map-take (λ (p : List Record). p) c.args.lent.now c.loop-i.i [] below, ap (λ (rs : List Record). length rs) c.piece-piece.ensures, c.loop-i.invariant.before, c.requires.few)

pub loop-i-preserved : goal.loop-i-preserved
loop-i-preserved c =
    let below : c.loop-i.i < length c.args.lent.now = omega (arith, c.loop-i-test.true, c.pieces-i-end.ensures) in record {
      before =
          let more = ap (λ (rs : List Record). length rs) (records-more c.args.lent.now c.loop-i.i below) ∙ length-append _ (get_or c.args.lent.now c.loop-i.i []) in
          let here = ap (λ (rs : List Record). length rs) c.piece-piece.ensures in
          omega (arith, more, here, c.loop-i.invariant.before);
      cube =
          let is = rw (c.saturating_sub.ensures, c.saturating_sub-in-loop-i.ensures) at c.add_piece.ensures.cells in
          walked-on c.loop-i.cube c.add_piece.new.self c.args.cube.now.shape c.args.cube.now.vars c.args.lent.now c.loop-i.i c.loop-i.before c.args.from c.args.to c.piece-piece.result.now below c.piece-piece.ensures c.loop-i.invariant.before c.loop-i.invariant.cube is;
    }
