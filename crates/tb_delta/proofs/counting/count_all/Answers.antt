use Rattle.std.proofs.Common.{◌≡◌, ◌+◌, ◌<◌, ◌≤◌, ◌∙◌, ap, sym, subst, length, take, ℕ, List, arith}
use Rattle.std.specs.Prelude.{All, flat_map}
use Rattle.std.proofs.lemmas.List.{take_all}
use Rattle.tb_base.specs.Records.{Fits}
use Rattle.tb_base.specs.declared.people.TheConstants.{MOST_PERSONS}
use Rattle.tb_base.specs.declared.records.Record.{Record}
use Rattle.tb_cube.specs.Cubes.{CubeValue, cube_over}
use Rattle.tb_delta.proofs.Pieces.{All-piece, cube-room, pieces-fit}
use Rattle.tb_delta.proofs.counting.count_all.Goals as goal

pub add_piece-requires-clause-dense : goal.add_piece-requires-clause-dense
add_piece-requires-clause-dense g c = ap (λ (cube : CubeValue). cube.dense) c.loop-i.invariant

pub add_piece-requires-clause-room : goal.add_piece-requires-clause-room
add_piece-requires-clause-room g c =
    let lent = c.lend-lent.result in
    let before = flat_map (λ p. p) (take c.loop-i.i lent) in
    let few : length before + length c.piece-piece.result.now ≤ MOST_PERSONS =
    omega (arith, pieces-fit lent c.loop-i.i (omega (arith, c.loop-i-test.true, c.pieces-i-end.ensures)), ap (λ (rs : List Record). length rs) c.lend-lent.ensures.records, ap (λ (rs : List Record). length rs) c.piece-piece.ensures, c.soundness.ensures.few, c.soundness.ensures.most) in
    rw (take_all c.len.result c.piece-piece.result.now (omega (arith, c.len.ensures)))
    (cube-room c.loop-i.cube c.args.shape.now c.args.vars.now before (length c.piece-piece.result.now) c.loop-i.invariant few)

pub add_piece-requires-clause-fit : goal.add_piece-requires-clause-fit
add_piece-requires-clause-fit g c =
    let lent = c.lend-lent.result in
    let shape : c.loop-i.cube.shape ≡ c.args.shape.now = ap (λ (cube : CubeValue). cube.shape) c.loop-i.invariant in
    let below : c.loop-i.i < length lent = omega (arith, c.loop-i-test.true, c.pieces-i-end.ensures) in
    let all : All (Fits c.args.shape.now) (flat_map (λ p. p) lent) = subst (All (Fits c.args.shape.now)) (sym c.lend-lent.ensures.records) c.requires.fit in
    let here : All (Fits c.args.shape.now) c.piece-piece.result.now = subst (All (Fits c.args.shape.now)) (sym c.piece-piece.ensures) (All-piece (Fits c.args.shape.now) lent c.loop-i.i below all) in
    rw (take_all c.len.result c.piece-piece.result.now (omega (arith, c.len.ensures))) (subst (λ (s : List ℕ). All (Fits s) c.piece-piece.result.now) (sym shape) here)

pub returns-clause-cube : goal.returns-clause-cube
returns-clause-cube g c =
    let lent = c.lend-lent.result in
    let whole = take_all c.loop-i.i lent (omega (arith, c.loop-i-test.false, c.pieces-i-end.ensures)) in
    c.loop-i.invariant ∙ ap (λ (ps : List (List Record)). cube_over c.args.shape.now c.args.vars.now (flat_map (λ p. p) ps)) whole
    ∙ ap (cube_over c.args.shape.now c.args.vars.now) c.lend-lent.ensures.records
