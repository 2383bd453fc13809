use Rattle.std.proofs.Common.{◌∙◌, map, [], arith}
use Rattle.std.proofs.lemmas.List.{get_or-map, length-map}
use Rattle.tb_io.proofs.Taking.{put-more}
use Rattle.tb_io.proofs.pieces.put_together.Goals as goal

pub loop-piece-preserved : goal.loop-piece-preserved
loop-piece-preserved c = record {
  within = omega arith;
  long = c.put_at.ensures.long ∙ c.loop-piece.invariant.long;
  text = put-more (map (λ p. p.now) c.args.pieces.now) c.loop-piece.piece-index _ _ _ (rw length-map c.loop-piece-test.true) (get_or-map _ c.args.pieces.now c.loop-piece.piece-index _ [] c.loop-piece-test.true) c.loop-piece.invariant.text c.put_at.ensures.text;
}
