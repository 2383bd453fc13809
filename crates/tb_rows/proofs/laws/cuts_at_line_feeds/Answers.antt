use Rattle.tb_rows.proofs.CutTexts.{cuts}
use Rattle.tb_rows.proofs.laws.cuts_at_line_feeds.Goals as goal

pub returns : goal.returns
returns c = cuts
