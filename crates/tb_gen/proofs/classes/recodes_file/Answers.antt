use Rattle.std.proofs.Common.{arith}
use Rattle.tb_gen.specs.Generated.{recode_line}
use Rattle.tb_gen.proofs.Steps.{starts, one_more, none_left}
use Rattle.tb_gen.proofs.classes.recodes_file.Goals as goal

pub loop-age-init : goal.loop-age-init
loop-age-init c = starts 101 recode_line _ _ c.in_ok-file.ensures

pub loop-age-preserved : goal.loop-age-preserved
loop-age-preserved c = one_more 101 recode_line c.loop-age.age _ _ _ (omega (arith, c.categories-ages.ensures.count))
    c.in_ok-add_recode.ensures c.loop-age.invariant

pub returns : goal.returns
returns c = none_left 101 recode_line c.loop-age.age _ _ (omega (arith, c.categories-ages.ensures.count)) c.loop-age.invariant
