use Rattle.std.proofs.Common.{ℕ, ◌+◌, ◌*◌, List, ◌++◌, ◌∙◌, sym, ap, arith}
use Rattle.tb_gen.specs.Draws.{after}
use Rattle.tb_gen.specs.Generated.{person_line}
use Rattle.tb_gen.proofs.Steps.{none_yet, starts, draws_more, one_more, none_left}
use Rattle.tb_gen.proofs.people.people_file.Goals as goal

-- the line of each person
abbrev lines : ℕ → ℕ → List ℕ
lines start i = person_line (i + 1) (after (5 * i) start)

pub loop-i-init : goal.loop-i-init
loop-i-init c = record {
  draws = c.from-draws.ensures ∙ sym (none_yet c.args.start);
  file = starts c.args.n (lines c.args.start) _ _ c.in_ok-file.ensures;
}

pub loop-i-preserved : goal.loop-i-preserved
loop-i-preserved c =
    let i = c.loop-i.i in
    let line = c.in_ok-add_person.ensures.line ∙ ap (λ x. c.loop-i.file.items ++ person_line (i + 1) x) c.loop-i.invariant.draws in
    record {
      draws = draws_more 5 i c.args.start _ _ c.loop-i.invariant.draws c.add_person.ensures.draws;
      file = one_more c.args.n (lines c.args.start) i _ _ _ (omega arith) line c.loop-i.invariant.file;
    }

pub returns : goal.returns
returns c = none_left c.args.n (lines c.args.start) c.loop-i.i _ _ (omega arith) c.loop-i.invariant.file
