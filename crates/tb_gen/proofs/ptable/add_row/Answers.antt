use Rattle.std.proofs.Common.{ℕ, ◌+◌, List, ◌++◌, ◌∙◌, sym, ap, arith}
use Rattle.tb_gen.specs.declared.classes.TheConstants.{KEY_RANGE}
use Rattle.tb_gen.specs.Draws.{after}
use Rattle.tb_gen.specs.Generated.{pvalue_line}
use Rattle.tb_gen.proofs.Steps.{none_yet, all_left, after_more, one_more, none_left}
use Rattle.tb_gen.proofs.ptable.add_row.Goals as goal

-- the line of each cell key
abbrev lines : ℕ → ℕ → ℕ → List ℕ
lines pcv x ckey = pvalue_line pcv ckey (after ckey x)

pub loop-ckey-init : goal.loop-ckey-init
loop-ckey-init c = record {
  draws = sym (none_yet c.args.draws.now);
  file = ap (λ t. c.args.file.now.items ++ t) (all_left KEY_RANGE (lines c.args.pcv c.args.draws.now));
}

pub loop-ckey-preserved : goal.loop-ckey-preserved
loop-ckey-preserved c =
    let i = c.loop-ckey.ckey in
    let x = c.args.draws.now in
    let line = c.in_ok-add_pvalue.ensures.line
    ∙ ap (λ y. c.loop-ckey.file.items ++ pvalue_line c.args.pcv i y) c.loop-ckey.invariant.draws in
    record {
      draws = c.add_pvalue.ensures.draws ∙ ap (after 1) c.loop-ckey.invariant.draws ∙ sym (after_more i 1 (i + 1) x (omega arith));
      file = one_more KEY_RANGE (lines c.args.pcv x) i _ _ _ (omega arith) line c.loop-ckey.invariant.file;
    }

pub returns-clause-lines : goal.returns-clause-lines
returns-clause-lines c = none_left KEY_RANGE (lines c.args.pcv c.args.draws.now) c.loop-ckey.ckey _ _ (omega arith)
    c.loop-ckey.invariant.file
