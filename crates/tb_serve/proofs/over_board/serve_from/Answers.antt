use Rattle.std.proofs.Common.{◌∙◌, ◌<◌, ap, length, arith, subst, sym}
use Rattle.std.specs.Prelude.{slice_index_or}
use Rattle.tb_board.specs.Holders.{HolderValue}
use Rattle.tb_lines.specs.Outputs.{Lead}
use Rattle.tb_serve.specs.Serves.{HasServed, IsVisited}
use Rattle.tb_serve.proofs.PortEnds.{can_work, first_ready, none_own, still_own}
use Rattle.tb_serve.proofs.Wholes.{all_left, all_own, first_visited, others_served}
use Rattle.tb_serve.proofs.over_board.serve_from.Goals as goal

pub work_all-requires-clause-first : goal.work_all-requires-clause-first
work_all-requires-clause-first g c = λ κs within_κs d.
    first_ready (g.W.Owner.writer c.args.owner) (slice_index_or c.args.ports.now 0 d) (slice_index_or c.seat_all.new.ports 0 d) (c.requires.can 0 d c.requires.some) (c.seat_all.ensures.seated.at 0 d c.requires.some)

pub work_all-requires-clause-others : goal.work_all-requires-clause-others
work_all-requires-clause-others g c = λ κs within_κs i d later lt.
    let within : i < length c.args.ports.now = (let l = c.seat_all.ensures.seated.same_length in omega arith) in
    can_work g.B.Named.name c.args.setting.now.setup.now (g.W.Owner.writer c.args.owner) i (slice_index_or c.args.ports.now i d) (slice_index_or c.seat_all.new.ports i d) c.requires.writer later
    (c.requires.can i d within) (c.seat_all.ensures.seated.at i d within)

pub confirm_all-requires-clause-own : goal.confirm_all-requires-clause-own
confirm_all-requires-clause-own g c = λ κs within_κs.
    all_own g.B.Named.name c.work_all.new.ports
    (λ d. none_own (Lead (g.W.Owner.Step c.args.own_setting.now)) g.W.Owner.fresh g.B.Named.name c.args.sessions (g.W.Owner.state c.new-seat.result.owner) (g.W.Owner.state c.work_all.new.seat.owner)
    (slice_index_or c.seat_all.new.ports 0 d) (slice_index_or c.work_all.new.ports 0 d)
    (first_ready (g.W.Owner.writer c.args.owner) (slice_index_or c.args.ports.now 0 d) (slice_index_or c.seat_all.new.ports 0 d) (c.requires.can 0 d c.requires.some) (c.seat_all.ensures.seated.at 0 d c.requires.some))
    (c.work_all.ensures.first d))
    (λ i d later lt.
    still_own g.B.Named.name c.args.setting.now.setup.now c.args.sessions (slice_index_or c.seat_all.new.ports i d) (slice_index_or c.work_all.new.ports i d)
    (c.work_all.ensures.others i d later (omega (arith, c.work_all.auto.ports))))

pub returns-clause-first : goal.returns-clause-first
returns-clause-first g c = λ d.
    subst (λ (x : g.W.Owner.State × g.W.Owner.State). IsVisited (Lead (g.W.Owner.Step c.args.own_setting.now)) g.W.Owner.fresh c.args.sessions x.0 x.1 (slice_index_or c.args.ports.now 0 d) (slice_index_or c.clear_all.new.ports 0 d))
    (λ j. ((ap g.W.Owner.state c.new-seat.ensures ∙ c.seat_all.ensures.same.1) j, sym c.confirm_all.ensures.same.1 j))
    (first_visited (Lead (g.W.Owner.Step c.args.own_setting.now)) g.W.Owner.fresh (g.W.Owner.state c.new-seat.result.owner) (g.W.Owner.state c.work_all.new.seat.owner) g.B.Named.name c.args.setting.now.setup.now c.args.sessions
    (g.W.Owner.writer c.args.owner) (g.W.Owner.writer c.work_all.new.seat.owner)
    c.args.ports.now c.seat_all.new.ports c.work_all.new.ports c.confirm_all.new.ports c.clear_all.new.ports c.requires.some c.seat_all.ensures.seated c.work_all.auto.ports c.work_all.ensures.first c.work_all.ensures.others
    c.confirm_all.ensures.confirmed c.clear_all.ensures d)

pub returns-clause-others : goal.returns-clause-others
returns-clause-others g c = λ i d later lt.
    subst (λ (h : HolderValue). HasServed c.args.setting.now.setup.now (g.W.Owner.writer c.args.owner).start.base c.args.sessions (g.W.Owner.writer c.args.owner).list h.list i (slice_index_or c.args.ports.now i d) (slice_index_or c.clear_all.new.ports i d))
    (sym c.confirm_all.ensures.same.0)
    (others_served (Lead (g.W.Owner.Step c.args.own_setting.now)) g.W.Owner.fresh (g.W.Owner.state c.new-seat.result.owner) (g.W.Owner.state c.work_all.new.seat.owner) g.B.Named.name c.args.setting.now.setup.now c.args.sessions
    (g.W.Owner.writer c.args.owner) (g.W.Owner.writer c.work_all.new.seat.owner)
    c.args.ports.now c.seat_all.new.ports c.work_all.new.ports c.confirm_all.new.ports c.clear_all.new.ports c.requires.some c.seat_all.ensures.seated c.work_all.auto.ports c.work_all.ensures.first c.work_all.ensures.others
    c.confirm_all.ensures.confirmed c.clear_all.ensures i d later lt)

pub returns-clause-left : goal.returns-clause-left
returns-clause-left g c =
    all_left (Lead (g.W.Owner.Step c.args.own_setting.now)) g.W.Owner.fresh (g.W.Owner.state c.new-seat.result.owner) (g.W.Owner.state c.work_all.new.seat.owner) g.B.Named.name c.args.setting.now.setup.now c.args.sessions
    (g.W.Owner.writer c.args.owner) (g.W.Owner.writer c.work_all.new.seat.owner)
    c.args.ports.now c.seat_all.new.ports c.work_all.new.ports c.confirm_all.new.ports c.clear_all.new.ports c.requires.some c.seat_all.ensures.seated c.work_all.auto.ports c.work_all.ensures.first c.work_all.ensures.others
    c.confirm_all.ensures.confirmed c.clear_all.ensures
