use Rattle.std.proofs.Common.{◌∷◌, [], ◌++◌, List, refl, arith}
use Rattle.std.proofs.lemmas.List.{length-append}
use Rattle.tb_io.specs.Listeners.{IsSameBut, ListenerValue}
use Rattle.tb_lines.specs.Outputs.{Lead}
use Rattle.tb_worker.specs.Visits.{Visit}
use Rattle.tb_worker.proofs.Working.{calm_more, calm_still, can_again, none_served, served_more, worked_all, worked_badly, worked_out}
use Rattle.tb_worker.proofs.worker.serve_sessions.Goals as goal

-- nothing changed
same_but : (l : ListenerValue) → IsSameBut l l
same_but l = record { count = omega arith; port = refl; out = refl; to_come = refl; came_back = refl }

pub loop-served-init : goal.loop-served-init
loop-served-init g c =
    let l = g.N.Listen.seen c.args.listener.now in record {
      ready = c.requires.ready;
      so_far = ([], none_served (Lead (g.A.Answerer.Step c.args.setting.now tt)) g.A.Answerer.fresh l l (g.A.Answerer.state c.args.party.now) c.requires.can (same_but l), refl, calm_still l);
    }

pub loop-served-preserved : goal.loop-served-preserved
loop-served-preserved g c =
    let so_far = c.loop-served.invariant.so_far in
    let step = c.in-Served.ensures.step in
    let vs : List Visit = so_far.0 in
    let one : List Visit = step.0 ∷ [] in record {
      ready = c.in-Served.ensures.ready;
      so_far = (
        vs ++ one,
        served_more (Lead (g.A.Answerer.Step c.args.setting.now tt)) g.A.Answerer.fresh so_far.1 step.1,
        omega (arith, length-append vs one, so_far.2),
        calm_more (g.N.Listen.seen c.args.listener.now) (g.N.Listen.seen c.loop-served.listener) (g.N.Listen.seen c.serve_next.new.listener) one so_far.3 step.1.given step.2,
      );
    }

pub serve_next-requires-clause-can : goal.serve_next-requires-clause-can
serve_next-requires-clause-can g c = λ κs within_κs.
    let so_far = c.loop-served.invariant.so_far in
    can_again (g.N.Listen.seen c.args.listener.now) (g.N.Listen.seen c.loop-served.listener) so_far.0 c.requires.can so_far.1.port so_far.1.given

pub returns-clause-worked : goal.returns-clause-worked
returns-clause-worked g c =
    let so_far = c.loop-served.invariant.so_far in
    worked_all (Lead (g.A.Answerer.Step c.args.setting.now tt)) g.A.Answerer.fresh c.args.sessions _ _ _ _ so_far.0 so_far.1 (omega (arith, so_far.2)) so_far.3

pub returns-in-NoneCame-clause-worked : goal.returns-in-NoneCame-clause-worked
returns-in-NoneCame-clause-worked g c =
    let so_far = c.loop-served.invariant.so_far in
    worked_out (Lead (g.A.Answerer.Step c.args.setting.now tt)) g.A.Answerer.fresh c.args.sessions c.loop-served.served so_far.1 so_far.2 so_far.3
    (omega arith) c.in-NoneCame.ensures.step

pub returns-in-Failed-clause-worked : goal.returns-in-Failed-clause-worked
returns-in-Failed-clause-worked g c =
    let so_far = c.loop-served.invariant.so_far in
    worked_badly (Lead (g.A.Answerer.Step c.args.setting.now tt)) g.A.Answerer.fresh c.args.sessions c.loop-served.served so_far.1 so_far.2
    (omega arith) c.in-Failed.ensures.step
