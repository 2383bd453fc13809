use Rattle.std.proofs.Common.{ℕ, ◌*◌, List, ◌++◌, ◌∙◌, sym, ap, codes, arith}
use Rattle.tb_gen.specs.Draws.{after, seed}
use Rattle.tb_gen.specs.Generated.{round_lines}
use Rattle.tb_gen.proofs.Steps.{rest_of, none_yet, all_left, draws_more, one_more, none_left}
use Rattle.tb_gen.proofs.script.script_file.Goals as goal

-- each round's lines
abbrev lines : ℕ → ℕ → ℕ → List ℕ
lines n start i = round_lines n (after (100 * i) (seed start 2))

pub loop-round-init : goal.loop-round-init
loop-round-init c = record {
  draws = c.from-draws.ensures ∙ sym (none_yet (seed c.args.start 2));
  file = ap (λ t. t ++ rest_of 10 (lines c.args.n c.args.start) 0) c.in_ok-file.ensures.items ∙ all_left 10 (lines c.args.n c.args.start);
}

pub loop-round-preserved : goal.loop-round-preserved
loop-round-preserved c =
    let i = c.loop-round._round in
    let x = seed c.args.start 2 in
    let more = c.in_ok-add_round.ensures.lines ∙ ap (λ y. c.loop-round.file.items ++ round_lines c.args.n y) c.loop-round.invariant.draws in
    record {
      draws = draws_more 100 i x _ _ c.loop-round.invariant.draws c.in_ok-add_round.ensures.draws;
      file = one_more 10 (lines c.args.n c.args.start) i _ _ _ (omega arith) more c.loop-round.invariant.file;
    }

pub returns : goal.returns
returns c =
    let rounds = none_left 10 (lines c.args.n c.args.start) c.loop-round._round _ _ (omega arith) c.loop-round.invariant.file in
    c.in_ok-extend_from_slice.ensures.items ∙ ap (λ t. t ++ codes "custodian stats\n") rounds
