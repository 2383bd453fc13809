use Rattle.std.proofs.Common.{◌∙◌, ◌++◌, ap, sym, map, Ok, append-nil}
use Rattle.tb_rows.specs.Formats.{line_under}
use Rattle.tb_records.specs.Lines.{AreLines}
use Rattle.tb_records.specs.People.{people_file}
use Rattle.tb_records.proofs.lines.read_lines.Goals as goal

pub returns : goal.returns
unfolding AreLines
returns c =
    let line = line_under (people_file c.args.schema.now) c.args.header.now.width c.args.header.now.indices in
    sym c.lines.invariant ∙ ap (λ rs. map (λ one. Ok one) c.lines.lines.items ++ map line rs) (c.in_ok-read.ensures.end c.if-branch.false)
    ∙ append-nil (map (λ one. Ok one) c.lines.lines.items)
