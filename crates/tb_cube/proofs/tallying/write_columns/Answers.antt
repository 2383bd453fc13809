use Rattle.std.proofs.Common.{refl, arith}
use Rattle.tb_cube.proofs.Tallied.{few-at, number, written-more}
use Rattle.tb_cube.proofs.tallying.write_columns.Goals as goal

pub number_of-number-requires : goal.number_of-number-requires
number_of-number-requires c = (few-at c.args.axes.now c.args.chunk.now c.loop-k.k c.index-chunk-k.result c.requires.lead c.loop-k-test.true c.index-chunk-k.is).lead

pub overflow_cast-numbers : goal.overflow_cast-numbers
overflow_cast-numbers c = omega (arith, c.number_of-number.ensures, (few-at c.args.axes.now c.args.chunk.now c.loop-k.k c.index-chunk-k.result c.requires.lead c.loop-k-test.true c.index-chunk-k.is).small)

pub loop-k-preserved : goal.loop-k-preserved
loop-k-preserved c = record {
  numbers = written-more (number c.args.axes.now) c.args.chunk.now c.loop-k.numbers c.loop-k.k c.number_of-number.result c.index-chunk-k.result c.loop-k-test.true (omega (arith, c.told-numbers, c.requires.few, c.loop-k-test.true)) c.index-chunk-k.is
      c.number_of-number.ensures c.loop-k.invariant.numbers;
  keys = written-more (λ r. r.key) c.args.chunk.now c.loop-k.keys c.loop-k.k c.index-chunk-k.result.key c.index-chunk-k.result c.loop-k-test.true (omega (arith, c.told-keys, c.requires.few, c.loop-k-test.true)) c.index-chunk-k.is
      refl c.loop-k.invariant.keys;
}
