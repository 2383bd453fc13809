use Rattle.std.proofs.Common.{refl}
use Rattle.tb_top.specs.Loading.{asked_value}
use Rattle.tb_top.proofs.AskingSteps.{keeps_asked, keeps_unasked}
use Rattle.tb_top.proofs.top.tablebuilder.Goals as goal

pub returns-in-Ok : goal.returns-in-Ok
returns-in-Ok g c = keeps_asked asked_value _ (g.F.Files.content c.ask.new.files) c.in-Ok.asked _ c.in-Ok.ensures.usage
    c.in-Ok.ensures.loads c.in-Ok.ensures.kind c.in-Ok.ensures.keeps c.requires.fresh c.answer.ensures

pub returns-in-Err : goal.returns-in-Err
returns-in-Err g c = keeps_unasked asked_value _ (g.F.Files.content c.ask.new.files) c.in-Err.end _ c.in-Err.ensures.usage
    c.in-Err.ensures.loads c.in-Err.ensures.generated refl c.requires.fresh refl (c.requires.attached, refl) c.end_by.ensures.ended
