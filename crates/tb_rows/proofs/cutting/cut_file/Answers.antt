use Rattle.tb_rows.proofs.CutTexts.{file-cut}
use Rattle.tb_rows.proofs.cutting.cut_file.Goals as goal

pub returns-clause-file : goal.returns-clause-file
returns-clause-file g c =
    let head = rw c.in-Some-2.is at c.in_ok-header.ensures.file in
    file-cut (g.F.FileFormat.format c.args.format.now) c.args.file.now c.split_at.result.0.now c.split_at.result.1.now c.in-Some-2.header.width c.in-Some-2.header.indices c.in_ok-parts.parts.items c.in-Some.end (c.has_no_quote.ensures c.if-not-has_no_quote.false) c.in-Some.ensures.2
    c.split_at.ensures.front c.split_at.ensures.back head c.in_ok-parts.ensures
