use Rattle.std.proofs.Common.{◌≡◌, ℕ, ◌*◌, List, ◌++◌, ◌∙◌, sym, ap, arith}
use Rattle.tb_gen.specs.Draws.{after}
use Rattle.tb_gen.specs.Generated.{amend_line}
use Rattle.tb_gen.proofs.Steps.{none_yet, all_left, draws_more, one_more, none_left}
use Rattle.tb_gen.proofs.script.add_amends.Goals as goal

-- each amend's line
abbrev lines : ℕ → ℕ → ℕ → List ℕ
lines n x i = amend_line n (after (2 * i) x)

pub loop-amend-init : goal.loop-amend-init
loop-amend-init c = record {
  draws = sym (none_yet c.args.draws.now);
  file = ap (λ t. c.args.file.now.items ++ t) (all_left 50 (lines c.args.n c.args.draws.now));
}

pub loop-amend-preserved : goal.loop-amend-preserved
loop-amend-preserved c =
    let i = c.loop-amend._amend in
    let x = c.args.draws.now in
    let line = c.in_ok-add_amend.ensures.line ∙ ap (λ y. c.loop-amend.file.items ++ amend_line c.args.n y) c.loop-amend.invariant.draws in
    record {
      draws = draws_more 2 i x _ _ c.loop-amend.invariant.draws c.add_amend.ensures.draws;
      file = one_more 50 (lines c.args.n x) i _ _ _ (omega arith) line c.loop-amend.invariant.file;
    }

pub returns-clause-lines : goal.returns-clause-lines
returns-clause-lines c = none_left 50 (lines c.args.n c.args.draws.now) c.loop-amend._amend _ _ (omega arith) c.loop-amend.invariant.file

pub returns-clause-draws : goal.returns-clause-draws
returns-clause-draws c =
    let all : 2 * c.loop-amend._amend ≡ 100 = omega arith in
    c.loop-amend.invariant.draws ∙ ap (λ k. after k c.args.draws.now) all
