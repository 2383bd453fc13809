use Rattle.std.proofs.Common.{sym, arith}
use Rattle.csv.specs.Records.{fields_of}
use Rattle.tb_rows.proofs.FieldIndices.{field-below, index_passed, index_twice, index_first, index_found}
use Rattle.tb_rows.proofs.columns.index_of.Goals as goal
use Rattle.tb_rows.proofs.columns.index_of.Goals.{then-eq+else-is_some, else-eq}

pub returns-then-is_some : goal.returns-then-is_some
returns-then-is_some c =
    index_twice c.args.name.now c.in-Some.field.now c.loop-field.found c.loop-field.i (fields_of c.args.header.now)
    (sym c.if-is_some.ensures) c.loop-field.invariant (sym c.in-Some.ensures.value) (sym c.if-eq.ensures)

pub loop-field-smaller : goal.loop-field-smaller
loop-field-smaller c = omega (arith, field-below (fields_of c.args.header.now) c.loop-field.i c.in-Some.field.now (sym c.in-Some.ensures.value))

pub loop-field-preserved : goal.loop-field-preserved
loop-field-preserved c = elim c.if-eq.branch [
  | then-eq+else-is_some w ↦ rw w.found-is (index_first c.args.name.now c.in-Some.field.now c.loop-field.found c.loop-field.i (fields_of c.args.header.now)
      (sym w.if-is_some.ensures) c.loop-field.invariant (sym c.in-Some.ensures.value) (sym w.if-eq.ensures))
  | else-eq w ↦ rw (w.found-is, ← index_passed c.args.name.now c.in-Some.field.now c.loop-field.i (fields_of c.args.header.now) (sym c.in-Some.ensures.value) (sym w.if-eq.ensures))
      c.loop-field.invariant
]

pub returns : goal.returns
returns c = index_found c.args.name.now c.loop-field.found c.loop-field.i (fields_of c.args.header.now) c.loop-field.invariant (sym c.in_default.ensures.value)
