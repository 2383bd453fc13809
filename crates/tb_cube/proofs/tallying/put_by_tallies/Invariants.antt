use Rattle.std.proofs.Common.{◌≡◌, List, ◌++◌, All}
use Rattle.std.specs.Slice.Iter.{chunks_rest, chunks_size}
use Rattle.tb_base.specs.declared.records.Record.{Record}
use Rattle.tb_base.specs.Cells.{IsReduced}
use Rattle.tb_base.specs.Records.{category_at}
use Rattle.tb_base.proofs.TallyLemmas.{ArePutBy}
use Rattle.tb_cube.specs.Axes.{number_by}
use Rattle.tb_cube.proofs.tallying.put_by_tallies.Given as goal

-- the records before the rest are put in
abbrev pub invariant-loop-chunk : goal.invariant-loop-chunk
invariant-loop-chunk l =
    goal.iterator-loop-chunk.can_next l.chunk-iterator
    × goal.iterator-loop-chunk.is_finite l.chunk-iterator
    × (chunks_size l.chunk-iterator ≡ 256)
    × ((done : List Record) × (l.piece ≡ done ++ chunks_rest l.chunk-iterator) × (ArePutBy (λ r. number_by l.axes (category_at r)) l.initial.cells done l.cells × All IsReduced l.cells))
