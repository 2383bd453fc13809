use Rattle.std.proofs.Common.{get_or, refl, subst, arith}
use Rattle.std.proofs.lemmas.List.{take_all}
use Rattle.tb_unit_cells.specs.Noting.{number_in, AreNoted}
use Rattle.tb_unit_cells.proofs.Noted.{found-at, noted-more, noted-none}
use Rattle.tb_unit_cells.proofs.noting.note_chunk.Goals as goal

pub loop-j-init : goal.loop-j-init
loop-j-init c = noted-none (number_in c.args.plan.now) c.args.units.now.links c.args.numbers.now

pub loop-j-preserved : goal.loop-j-preserved
loop-j-preserved c =
    let r = c.index-chunk-j.result in
    noted-more (number_in c.args.plan.now) c.args.units.now.links c.args.chunk.now c.loop-j.j r r.person (get_or c.numbers_of-found.result c.loop-j.j 0)
    c.args.numbers.now c.loop-j.numbers c.note_record-guess.new.numbers c.loop-j-test.true c.index-chunk-j.is refl
    (found-at (number_in c.args.plan.now) c.args.chunk.now c.numbers_of-found.result c.loop-j.j r c.loop-j-test.true c.index-chunk-j.is c.numbers_of-found.ensures)
    c.note_record-guess.ensures c.loop-j.invariant

pub returns : goal.returns
returns c =
    subst (λ rs. AreNoted (number_in c.args.plan.now) c.args.units.now.links rs c.args.numbers.now c.loop-j.numbers)
    (take_all c.loop-j.j c.args.chunk.now (omega (arith, c.loop-j-test.false))) c.loop-j.invariant
