use Rattle.tb_top.specs.Loading.{census_value}
use Rattle.tb_top.proofs.SummedUp.{summed, unsummed}
use Rattle.tb_top.proofs.top.sum_up.Goals as goal

pub returns-in-Done : goal.returns-in-Done
returns-in-Done g c =
    summed c.args.population.now (census_value c.args.census) c.args.script.now _ _ c.answer_script.result c.answer_script.new.out c.in-Done.is
    (rw c.new-replies.ensures at c.answer_script.ensures) (c.end_summed.ensures c.answer_script.new.out c.sums.ensures)

pub returns-in_default : goal.returns-in_default
returns-in_default g c =
    unsummed c.args.population.now (census_value c.args.census) c.args.script.now _ _ c.answer_script.result c.answer_script.new.out c.in_default.not-Done
    (rw c.new-replies.ensures at c.answer_script.ensures) c.end_by.ensures.ended
