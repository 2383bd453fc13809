use Rattle.std.proofs.Common.{◌∷◌, refl}
use Rattle.std.proofs.iter.Serving.{serving}
use Rattle.tb_serve.specs.Stages.{IsReady}
use Rattle.tb_serve.specs.Workers.{CanWork, HasWorkedAt}
use Rattle.tb_serve.proofs.Each.{each_of, first_of, others_at, others_of}
use Rattle.tb_serve.proofs.workers.work_all.Goals as goal

pub call_beside-requires-clause-own : goal.call_beside-requires-clause-own
call_beside-requires-clause-own g c κs within =
    let ready = first_of IsReady c.args.ports.now c.in-Some.first.now c.in-Some.others.now c.in-Some.ensures.cases.0 c.requires.first in
    grind serving

pub call_beside-requires-clause-rest : goal.call_beside-requires-clause-rest
call_beside-requires-clause-rest g c κs within =
    let can = others_of (CanWork g.B.Named.name c.args.setting.now.setup.now) c.args.ports.now c.in-Some.first.now c.in-Some.others.now c.in-Some.ensures.cases.0 c.requires.others in
    grind serving

pub returns-clause-others : goal.returns-clause-others
returns-clause-others g c =
    let done = c.call_beside.ensures.rest in
    let R = HasWorkedAt g.B.Named.name c.args.setting.now.setup.now c.args.sessions in
    others_at R c.args.ports.now (c.call_beside.new.first ∷ c.call_beside.new.others) c.in-Some.first.now c.in-Some.others.now c.call_beside.new.first c.call_beside.new.others
    c.in-Some.ensures.cases.0 refl
    (each_of (λ _. R) done.argument.now done.after.now c.in-Some.others.now c.call_beside.new.others done.argument_is done.left done.call)
