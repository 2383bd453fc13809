use Rattle.std.proofs.Common.{arith}
use Rattle.tb_spelling.proofs.Lengths.{length-add, length-amend}
use Rattle.tb_spelling.proofs.write.edit_len.Goals as goal

pub returns-in-Add-clause-len : goal.returns-in-Add-clause-len
returns-in-Add-clause-len c = rw c.in-Add.is (omega (arith, length-add c.in-Add.person c.in-Add.key c.in-Add.codes, c.len.ensures))

pub returns-in-Amend-clause-len : goal.returns-in-Amend-clause-len
returns-in-Amend-clause-len c = rw c.in-Amend.is (omega (arith, length-amend c.in-Amend.person c.in-Amend.sets, c.len-in-Amend.ensures))
