use Rattle.tb_rows.proofs.CutTexts.{none-found}
use Rattle.tb_rows.proofs.cutting.has_no_quote.Goals as goal

pub returns : goal.returns
returns c = none-found c.args.text.now c.memchr.result c.is_none.result c.memchr.ensures c.is_none.ensures
