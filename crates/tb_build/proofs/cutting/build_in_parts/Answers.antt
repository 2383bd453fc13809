use Rattle.std.proofs.Common.{ap, length, arith}
use Rattle.std.specs.Prelude.{List}
use Rattle.std.proofs.lemmas.Grind.{div_ceil_times}
use Rattle.tb_base.specs.declared.records.Record.{Record}
use Rattle.tb_build.specs.Parts.{records_in}
use Rattle.tb_build.proofs.PartLemmas.{cube-count, cut-cubes}
use Rattle.tb_build.proofs.cutting.build_in_parts.Goals as goal

pub merge_parts-requires-clause-cubes : goal.merge_parts-requires-clause-cubes
merge_parts-requires-clause-cubes g c =
    cut-cubes c.deref.result.now c.in_ok-cubes.cubes.items c.in_ok-cube.cube c.args.shape.now c.args.vars.now (records_in c.lend-lent.result) c.div_ceil-size.result c.min-parts.result c.deref.ensures.value c.in_ok-cubes.ensures c.in_ok-cube.ensures

pub merge_parts-requires-clause-all : goal.merge_parts-requires-clause-all
merge_parts-requires-clause-all g c =
    let count = cube-count c.deref.result.now c.in_ok-cubes.cubes.items c.args.shape.now c.args.vars.now (records_in c.lend-lent.result) c.div_ceil-size.result c.min-parts.result c.deref.ensures.value c.in_ok-cubes.ensures in
    let size = div_ceil_times c.len.result c.min-parts.result (omega (arith, c.min-parts.ensures, c.if-parts-le1.false)) in
    let all = ap (λ (rs : List Record). length rs) c.lend-lent.ensures.records in
    rw (count, c.div_ceil-size.ensures) (omega (arith, size.0, all, c.len.ensures))
