use Rattle.std.proofs.Common.{[], ◌∷◌, ap, arith, length, length-append}
use Rattle.std.proofs.lemmas.Result.{err_from_is_err_and}
use Rattle.tb_spelling.specs.Fields.{many_at}
use Rattle.tb_spelling.specs.Reading.{edit_at}
use Rattle.tb_spelling.proofs.Rereading.{one_more, fails}
use Rattle.tb_spelling.proofs.read.many_edits.Goals as goal

pub returns-in_err-edit : goal.returns-in_err-edit
returns-in_err-edit c =
    let p = err_from_is_err_and c.from_residual.result c.from_residual.ensures.1 in
    rw (p.1, p.2) (fails edit_at c.loop.edits c.args.count c.loop.counter c.loop.rest.now (many_at edit_at c.args.count c.args.bytes.now) c.loop.invariant.reads c.in_err-edit.field-0.0 c.loop-test.true c.in_err-edit.ensures)

pub loop-preserved : goal.loop-preserved
loop-preserved c =
    let pushed = rw c.in-Ok.is at c.push.ensures in
    record {
      reads = rw pushed.1 (one_more edit_at c.loop.edits c.args.count c.loop.counter c.loop.rest.now (many_at edit_at c.args.count c.args.bytes.now) c.loop.invariant.reads c.in_ok-edit.edit c.in_ok-edit.after.now c.loop-test.true c.in_ok-edit.ensures);
      number = omega (arith, ap length pushed.1, length-append c.loop.edits (c.in_ok-edit.edit ∷ []), c.loop.invariant.number);
    }
