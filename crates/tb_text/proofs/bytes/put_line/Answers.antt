use Rattle.std.proofs.Common.{take}
use Rattle.tb_text.proofs.Copies.{line_put}
use Rattle.tb_text.proofs.bytes.put_line.Goals as goal

pub returns-clause-text : goal.returns-clause-text
returns-clause-text c =
    line_put c.put.new.to c.put-2.new.to c.put_end.new.to c.args.to.now (take c.args.begin_len c.args.begin.now) (take c.args.field_len c.args.field.now) _ c.put_end.result c.args.at c.args.begin_len c.args.field_len
    c.put.ensures.text c.put-2.ensures.text c.put_end.ensures.text
