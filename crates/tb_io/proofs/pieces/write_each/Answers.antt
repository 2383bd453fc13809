use Rattle.std.proofs.Common.{map, [], arith, refl, List, ℕ}
use Rattle.std.proofs.lemmas.List.{get_or-map, length-map, take_all}
use Rattle.tb_io.proofs.Taking.{Took-more, TookPart-more}
use Rattle.tb_io.proofs.Written.{all_written, cut_written}
use Rattle.tb_io.proofs.pieces.write_each.Goals as goal

pub returns-in-Failed : goal.returns-in-Failed
returns-in-Failed g c = record {
  written = cut_written c.loop-piece.invariant.count c.write.ensures.count (c.in-Failed.ensures.failed refl)
      (TookPart-more _ _ _ (map (λ p. p.now) c.args.pieces.now) c.loop-piece.piece-index _ (rw length-map c.loop-piece-test.true) (get_or-map _ c.args.pieces.now c.loop-piece.piece-index _ [] c.loop-piece-test.true) c.loop-piece.invariant.took (c.in-Failed.ensures.part refl));
}

pub returns : goal.returns
returns g c =
    let texts : List (List ℕ) = map (λ p. p.now) c.args.pieces.now in
    record { written = all_written _ _ _ _ _ c.loop-piece.invariant.count (rw (take_all c.loop-piece.piece-index texts (rw length-map c.loop-piece-test.false)) at c.loop-piece.invariant.took) }

pub loop-piece-preserved : goal.loop-piece-preserved
loop-piece-preserved g c = record {
  count = omega arith;
  took = Took-more _ _ _ (map (λ p. p.now) c.args.pieces.now) c.loop-piece.piece-index _ (rw length-map c.loop-piece-test.true) (get_or-map _ c.args.pieces.now c.loop-piece.piece-index _ [] c.loop-piece-test.true) c.loop-piece.invariant.took (c.in-All.ensures.all refl);
}
