use Rattle.std.proofs.Common.{arith}
use Rattle.tb_marks.proofs.Meeting.{raises}
use Rattle.tb_marks.proofs.raised.raised.Goals as goal

pub overflow_mul-block : goal.overflow_mul-block
overflow_mul-block c =
    let f = raises c.args.sizes.now c.args.d c.args.x c.places_from-row.result c.requires.some c.requires.there c.requires.place c.places_from-row.ensures.places in
    omega (arith, f.block_few, c.requires.few)

pub nonzero_div-result : goal.nonzero_div-result
nonzero_div-result c = (raises c.args.sizes.now c.args.d c.args.x c.places_from-row.result c.requires.some c.requires.there c.requires.place c.places_from-row.ensures.places).block_some

pub overflow_sub-result : goal.overflow_sub-result
overflow_sub-result c = (raises c.args.sizes.now c.args.d c.args.x c.places_from-row.result c.requires.some c.requires.there c.requires.place c.places_from-row.ensures.places).some

pub overflow_mul-result : goal.overflow_mul-result
overflow_mul-result c =
    let f = raises c.args.sizes.now c.args.d c.args.x c.places_from-row.result c.requires.some c.requires.there c.requires.place c.places_from-row.ensures.places in
    omega (arith, f.whole, c.requires.few)

pub overflow_mul-result-2 : goal.overflow_mul-result-2
overflow_mul-result-2 c =
    let f = raises c.args.sizes.now c.args.d c.args.x c.places_from-row.result c.requires.some c.requires.there c.requires.place c.places_from-row.ensures.places in
    omega (arith, f.last, f.block_few, c.requires.few)

pub overflow_add-result : goal.overflow_add-result
overflow_add-result c =
    let f = raises c.args.sizes.now c.args.d c.args.x c.places_from-row.result c.requires.some c.requires.there c.requires.place c.places_from-row.ensures.places in
    omega (arith, f.last, f.whole, c.requires.few)

pub nonzero_rem-result : goal.nonzero_rem-result
nonzero_rem-result c = (raises c.args.sizes.now c.args.d c.args.x c.places_from-row.result c.requires.some c.requires.there c.requires.place c.places_from-row.ensures.places).row_some

pub overflow_add-result-2 : goal.overflow_add-result-2
overflow_add-result-2 c =
    let f = raises c.args.sizes.now c.args.d c.args.x c.places_from-row.result c.requires.some c.requires.there c.requires.place c.places_from-row.ensures.places in
    omega (arith, f.last, f.whole, f.column, c.requires.few)

pub returns-clause-below : goal.returns-clause-below
returns-clause-below c =
    let f = raises c.args.sizes.now c.args.d c.args.x c.places_from-row.result c.requires.some c.requires.there c.requires.place c.places_from-row.ensures.places in
    omega (arith, f.last, f.whole, f.column)
