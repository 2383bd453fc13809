use Rattle.std.proofs.Common.{◌≡◌, ◌-◌, ◌∙◌, ap, sym, length, take, drop, arith}
use Rattle.std.specs.Prelude.{min}
use Rattle.std.proofs.lemmas.List.{length-take, take_rest}
use Rattle.tb_text.specs.Spans.{part_at}
use Rattle.tb_text.proofs.Copies.{part_of_first}
use Rattle.tb_text.proofs.bytes.Bytes.wide_part.Goals as goal

pub returns-clause-part : goal.returns-clause-part
returns-clause-part c =
    let span = c.args.span in
    let count = span.end - span.start in
    let bytes = c.self.inside.bytes.items in
    let long : length c.args.self.now ≡ min c.self.inside.len (length bytes) = ap length (sym c.self.view_is) ∙ length-take c.self.inside.len bytes in
    let rest : take (length c.deref.result.now - span.start) (drop span.start c.deref.result.now) ≡ drop span.start bytes = take_rest c.deref.result.now span.start ∙ ap (λ t. drop span.start t) c.deref.ensures.value in
    ap (take count) rest
    ∙ sym (part_of_first c.self.inside.len span.start span.end bytes c.requires.order (omega (arith, c.requires.within, long)))
    ∙ ap (λ t. part_at t span) c.self.view_is
