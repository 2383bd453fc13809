use Rattle.std.proofs.Common.{ℕ, ◌+◌, ◌*◌, List, ◌++◌, ◌∙◌, sym, ap, arith}
use Rattle.tb_gen.specs.declared.classes.TheConstants.{KEY_RANGE}
use Rattle.tb_base.specs.declared.limits.TheConstants.{LAST_ROW}
use Rattle.tb_gen.specs.Draws.{after, seed}
use Rattle.tb_gen.specs.Generated.{row_lines}
use Rattle.tb_gen.proofs.Steps.{none_yet, starts, draws_more, one_more, none_left}
use Rattle.tb_gen.proofs.ptable.ptable_file.Goals as goal

-- each row's lines
abbrev lines : ℕ → ℕ → List ℕ
lines start i = row_lines (i + 1) (after (KEY_RANGE * i) (seed start 1))

pub loop-i-init : goal.loop-i-init
loop-i-init c = record {
  draws = c.from-draws.ensures ∙ sym (none_yet (seed c.args.start 1));
  file = starts LAST_ROW (lines c.args.start) _ _ c.in_ok-file.ensures;
}

pub loop-i-preserved : goal.loop-i-preserved
loop-i-preserved c =
    let i = c.loop-i.i in
    let x = seed c.args.start 1 in
    let more = c.in_ok-add_row.ensures.lines ∙ ap (λ y. c.loop-i.file.items ++ row_lines (i + 1) y) c.loop-i.invariant.draws in
    record {
      draws = draws_more KEY_RANGE i x _ _ c.loop-i.invariant.draws c.in_ok-add_row.ensures.draws;
      file = one_more LAST_ROW (lines c.args.start) i _ _ _ (omega arith) more c.loop-i.invariant.file;
    }

pub returns : goal.returns
returns c = none_left LAST_ROW (lines c.args.start) c.loop-i.i _ _ (omega arith) c.loop-i.invariant.file
