use Rattle.std.proofs.Common.{◌<◌, ◌++◌, length, take, subst, ap, sym, ◌∙◌, arith}
use Rattle.std.specs.Prelude.{All, flat_map}
use Rattle.std.proofs.lemmas.List.{take_all}
use Rattle.tb_base.specs.Records.{Fits}
use Rattle.tb_unit_cells.specs.Noting.{number_in, AreNoted}
use Rattle.tb_unit_cells.proofs.Noted.{noted-then}
use Rattle.tb_unit_cells.proofs.Pieces.{one-piece, piece-fits}
use Rattle.tb_unit_cells.proofs.noting.note_numbers.Goals as goal

pub note_piece-guess-requires-clause-fit : goal.note_piece-guess-requires-clause-fit
note_piece-guess-requires-clause-fit c =
    let lent = c.args.lent.now in
    let below : c.loop-i.i < length lent = omega (arith, c.loop-i-test.true, c.pieces-i-end.ensures) in
    subst (All (Fits c.args.plan.now.shape)) (sym c.piece.ensures) (piece-fits (Fits c.args.plan.now.shape) lent c.loop-i.i below c.requires.fit)

pub loop-i-preserved : goal.loop-i-preserved
loop-i-preserved c =
    let lent = c.args.lent.now in
    let below : c.loop-i.i < length lent = omega (arith, c.loop-i-test.true, c.pieces-i-end.ensures) in
    subst (λ rs. AreNoted (number_in c.args.plan.now) c.args.units.now.links rs c.args.numbers.now c.note_piece-guess.new.numbers) (sym (one-piece lent c.loop-i.i below ∙ ap (λ rs. flat_map (λ q. q) (take c.loop-i.i lent) ++ rs) (sym c.piece.ensures)))
    (noted-then (number_in c.args.plan.now) c.args.units.now.links (flat_map (λ q. q) (take c.loop-i.i lent)) c.piece.result.now c.args.numbers.now c.loop-i.numbers c.note_piece-guess.new.numbers c.loop-i.invariant c.note_piece-guess.ensures)

pub returns : goal.returns
returns c =
    let lent = c.args.lent.now in
    subst (λ ps. AreNoted (number_in c.args.plan.now) c.args.units.now.links (flat_map (λ q. q) ps) c.args.numbers.now c.loop-i.numbers)
    (take_all c.loop-i.i lent (omega (arith, c.loop-i-test.false, c.pieces-i-end.ensures))) c.loop-i.invariant
