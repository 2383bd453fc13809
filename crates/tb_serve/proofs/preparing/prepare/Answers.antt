use Rattle.std.proofs.Common.{◌<◌, ℕ, length, arith, refl, sym}
use Rattle.std.specs.Prelude.{slice_index_or}
use Rattle.tb_serve.specs.Each.{Each}
use Rattle.tb_serve.specs.Places.{number_at}
use Rattle.tb_serve.specs.Ports.{PortValue}
use Rattle.tb_serve.specs.Stages.{GetsReady, HasLines, IsBoundAt, IsCleared, IsSameButLines, IsUntouched}
use Rattle.tb_serve.proofs.PortEnds.{can_bind, gets_ready, unserved_bound, unserved_lines}
use Rattle.tb_serve.proofs.Wholes.{each_then, unbound_cleared}
use Rattle.tb_serve.proofs.preparing.prepare.Goals as goal

pub bind_all-requires-clause-can : goal.bind_all-requires-clause-can
bind_all-requires-clause-can g c = λ κs within_κs i d lt.
    let lines = c.in-Ok.ensures.ok in
    let within : i < length c.args.ports.now = omega (arith, lines.same_length) in
    can_bind (slice_index_or c.args.ports.now i d) (slice_index_or c.give_all_lines.new.ports i d) (c.requires.fresh i d within)
    (lines.at i d within)

pub returns-in-Err : goal.returns-in-Err
returns-in-Err g c =
    each_then (λ _. IsSameButLines) (λ _. IsCleared) (IsUntouched (number_at c.args.places)) c.args.ports.now c.give_all_lines.new.ports
    c.clear_all.new.ports c.in-Err.ensures.err c.clear_all.ensures
    (λ i d lt lines cleared. unserved_lines (number_at c.args.places) i _ _ _ (c.requires.fresh i d lt) lines cleared)

pub returns-in-Ready : goal.returns-in-Ready
returns-in-Ready g c =
    each_then (λ _. HasLines) (IsBoundAt (number_at c.args.places)) (GetsReady (number_at c.args.places)) c.args.ports.now c.give_all_lines.new.ports
    c.bind_all.new.ports c.in-Ok.ensures.ok (c.in-Ready.ensures.ready refl)
    (λ i d lt lines bound. gets_ready (number_at c.args.places) i _ _ _ (c.requires.fresh i d lt) lines bound)

pub returns-in-Failed : goal.returns-in-Failed
returns-in-Failed g c =
    let lines = c.in-Ok.ensures.ok in
    let same = c.in-Failed.ensures.failed refl in
    let cleared = c.clear_all-in-Failed.ensures in
    let Between : ℕ → PortValue → PortValue → Type 0 = λ i p r. (q : PortValue) × IsUntouched (number_at c.args.places) i p q × IsCleared q r in
    let between : Each Between c.give_all_lines.new.ports c.clear_all-in-Failed.new.ports =
    each_then (IsUntouched (number_at c.args.places)) (λ _. IsCleared) Between c.give_all_lines.new.ports c.bind_all.new.ports
    c.clear_all-in-Failed.new.ports same cleared
    (λ i d lt x y. (slice_index_or c.bind_all.new.ports i d, x, y)) in (
      each_then (λ _. HasLines) Between (IsUntouched (number_at c.args.places)) c.args.ports.now c.give_all_lines.new.ports
          c.clear_all-in-Failed.new.ports lines between
          (λ i d lt x y. unserved_bound (number_at c.args.places) i _ _ y.0 _ (c.requires.fresh i d lt) x y.1 y.2),
      unbound_cleared c.args.ports.now c.give_all_lines.new.ports c.clear_all-in-Failed.new.ports lines c.bind_all.new.ports
          (c.in-Failed.ensures.unbound refl) cleared (sym same.same_length),
    )
