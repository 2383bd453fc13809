use Rattle.std.proofs.Common.{arith, sym, take, Fits, rules}
use Rattle.std.specs.Int.{w16}
use Rattle.std.proofs.lemmas.Grind.{common_steps}
use Rattle.std.proofs.lemmas.List.{take_all}
use Rattle.std.proofs.lemmas.List.Elements.{All-more, All-same}
use Rattle.tb_spelling.specs.Payloads.{IsSetting}
use Rattle.tb_spelling.proofs.write.put_sets.Goals as goal

pub loop-i-preserved : goal.loop-i-preserved
loop-i-preserved c =
    let variable : Fits w16 c.at-variable.result.0 = search rules in
    let category : Fits w16 c.at-variable.result.1 = search rules in
    let both : IsSetting c.at-variable.result = (variable.fits, category.fits) in
    record {
      bytes = grind (arith, common_steps);
      in_format = All-more IsSetting c.args.sets.now c.loop-i.i (0, 0) (omega (arith, c.loop-i-test.true, c.len-i-end.ensures)) c.loop-i.invariant.in_format (rw c.at-variable.ensures at both);
    }

pub returns-clause-in_format : goal.returns-clause-in_format
returns-clause-in_format c = All-same IsSetting c.args.sets.now (take c.loop-i.i c.args.sets.now) (sym (take_all c.loop-i.i c.args.sets.now (omega (arith, c.loop-i-test.false, c.len-i-end.ensures)))) c.loop-i.invariant.in_format
