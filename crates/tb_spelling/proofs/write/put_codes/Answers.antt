use Rattle.std.proofs.Common.{arith, sym, take, Fits, rules}
use Rattle.std.specs.Int.{w16}
use Rattle.std.proofs.lemmas.Grind.{common_steps}
use Rattle.std.proofs.lemmas.List.{take_all}
use Rattle.std.proofs.lemmas.List.Elements.{All-more, All-same}
use Rattle.tb_spelling.specs.Payloads.{InTwoBytes}
use Rattle.tb_spelling.proofs.write.put_codes.Goals as goal

pub loop-i-preserved : goal.loop-i-preserved
loop-i-preserved c =
    let fits : Fits w16 c.at.result = search rules in
    record {
      bytes = grind (arith, common_steps);
      in_format = All-more InTwoBytes c.args.codes.now c.loop-i.i 0 (omega (arith, c.loop-i-test.true, c.len-i-end.ensures)) c.loop-i.invariant.in_format (rw c.at.ensures at fits.fits);
    }

pub returns-clause-in_format : goal.returns-clause-in_format
returns-clause-in_format c = All-same InTwoBytes c.args.codes.now (take c.loop-i.i c.args.codes.now) (sym (take_all c.loop-i.i c.args.codes.now (omega (arith, c.loop-i-test.false, c.len-i-end.ensures)))) c.loop-i.invariant.in_format
