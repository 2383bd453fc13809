use Rattle.std.proofs.Common.{◌∙◌, refl, sym, arith}
use Rattle.tb_io.proofs.NextLemmas.{end-last, end-none, gathered-more, gathered-none, known-more, next-end, next-fault, next-last, next-line, next-long, same-stream, takes-end, takes-fault, takes-last, takes-line, takes-long}
use Rattle.tb_io.proofs.line_reader.next_in.Goals as goal

pub pieces-init : goal.pieces-init
pieces-init g c = record {
  count = omega arith;
  goes_on = c.requires;
  within = omega arith;
  known = refl;
  so_far = gathered-none (g.S.Source.left c.args.source.now) c.args.room.now.ahead;
}

pub pieces-preserved : goal.pieces-preserved
pieces-preserved g c =
    let known = known-more c.in-Got.field-0 (g.S.Source.left c.pieces.source) (g.S.Source.left c.fill.new.source) c.pieces.room.ahead c.fill.new.self.ahead c.len-ahead.result c.len-ahead.ensures.value c.in_default.ensures.feed c.in-Got.ensures.fills in
    record {
      count = omega (arith, c.pieces.invariant.count, c.in-Got.ensures.count);
      goes_on = c.pieces.invariant.goes_on;
      within = known.0;
      known = known.1;
      so_far = gathered-more c.in-Got.field-0 _ _ _ c.args.room.now.ahead c.pieces.room.ahead c.fill.new.self.ahead c.pieces.invariant.so_far c.in-Got.ensures.fills;
    }

pub returns-in-Some-clause-next : goal.returns-in-Some-clause-next
returns-in-Some-clause-next g c =
    next-line c.pieces.room.ahead (g.S.Source.left c.pieces.source) _ c.in-Some.i c.cut.new.self.line c.cut.new.self.ahead
    (same-stream _ _ c.args.room.now.ahead c.pieces.room.ahead c.pieces.invariant.so_far) c.in-Some.ensures.feed c.in-Some.ensures.few c.cut.ensures.line c.cut.ensures.ahead

pub returns-in-Some-clause-takes : goal.returns-in-Some-clause-takes
returns-in-Some-clause-takes g c =
    takes-line _ _ _ c.args.room.now.ahead c.pieces.room.ahead c.cut.new.self.line c.cut.new.self.ahead _ c.pieces.invariant.so_far refl c.in-Some.ensures.few c.in-Some.i c.in-Some.ensures.feed c.cut.ensures.line c.cut.ensures.ahead
    c.pieces.invariant.goes_on

pub returns-in-Some-clause-end : goal.returns-in-Some-clause-end
returns-in-Some-clause-end g c = λ e. absurd (let f = c.pieces.invariant.goes_on in cc)

pub returns-then-ahead-eq-ROOM-clause-next : goal.returns-then-ahead-eq-ROOM-clause-next
returns-then-ahead-eq-ROOM-clause-next g c =
    next-long c.pieces.room.ahead c.pieces.room.line (g.S.Source.left c.pieces.source) _
    (same-stream _ _ c.args.room.now.ahead c.pieces.room.ahead c.pieces.invariant.so_far) c.in_default.ensures.feed (sym c.len-ahead.ensures.value ∙ c.if-ahead-eq-ROOM.true)

pub returns-then-ahead-eq-ROOM-clause-takes : goal.returns-then-ahead-eq-ROOM-clause-takes
returns-then-ahead-eq-ROOM-clause-takes g c =
    takes-long _ _ _ c.args.room.now.ahead c.pieces.room.ahead c.pieces.room.line c.pieces.room.ahead _ c.pieces.invariant.so_far refl c.in_default.ensures.few c.in_default.ensures.feed (sym c.len-ahead.ensures.value ∙ c.if-ahead-eq-ROOM.true) refl
    c.pieces.invariant.goes_on

pub returns-then-ahead-eq-ROOM-clause-end : goal.returns-then-ahead-eq-ROOM-clause-end
returns-then-ahead-eq-ROOM-clause-end g c = λ e. absurd (let f = c.pieces.invariant.goes_on in cc)

pub returns-then-ahead-eq0-clause-next : goal.returns-then-ahead-eq0-clause-next
returns-then-ahead-eq0-clause-next g c =
    next-end c.pieces.room.ahead (g.S.Source.left c.pieces.source) (g.S.Source.left c.fill.new.source) _ c.fill.new.self.ahead c.fill.new.self.line
    (same-stream _ _ c.args.room.now.ahead c.pieces.room.ahead c.pieces.invariant.so_far) (sym c.len-ahead.ensures.value ∙ c.if-ahead-eq0.true) c.in-End.ensures.fills

pub returns-then-ahead-eq0-clause-takes : goal.returns-then-ahead-eq0-clause-takes
returns-then-ahead-eq0-clause-takes g c =
    takes-end _ _ _ c.args.room.now.ahead c.pieces.room.ahead c.fill.new.self.line c.fill.new.self.ahead _ c.pieces.invariant.so_far c.in-End.ensures.fills.2 c.in_default.ensures.few (sym c.len-ahead.ensures.value ∙ c.if-ahead-eq0.true) c.in-End.ensures.fills.0 refl

pub returns-then-ahead-eq0-clause-end : goal.returns-then-ahead-eq0-clause-end
returns-then-ahead-eq0-clause-end g c = λ e.
    end-none c.pieces.room.ahead c.fill.new.self.ahead (g.S.Source.left c.pieces.source) (g.S.Source.left c.fill.new.source) (sym c.len-ahead.ensures.value ∙ c.if-ahead-eq0.true) c.in-End.ensures.fills

pub returns-in-End-clause-next : goal.returns-in-End-clause-next
returns-in-End-clause-next g c =
    next-last c.pieces.room.ahead (g.S.Source.left c.pieces.source) (g.S.Source.left c.fill.new.source) _ c.len-ahead.result c.fill.new.self.ahead c.cut-in-End.new.self.line c.cut-in-End.new.self.ahead
    (same-stream _ _ c.args.room.now.ahead c.pieces.room.ahead c.pieces.invariant.so_far) c.in_default.ensures.feed c.len-ahead.ensures.value c.if-ahead-eq0.false c.if-ahead-eq-ROOM.false c.len-ahead.ensures.few c.in-End.ensures.fills c.cut-in-End.ensures.line c.cut-in-End.ensures.ahead

pub returns-in-End-clause-takes : goal.returns-in-End-clause-takes
returns-in-End-clause-takes g c =
    takes-last _ _ _ c.args.room.now.ahead c.pieces.room.ahead c.cut-in-End.new.self.line c.cut-in-End.new.self.ahead _ c.pieces.invariant.so_far c.in-End.ensures.fills.2 c.in_default.ensures.few c.len-ahead.result c.fill.new.self.ahead c.in_default.ensures.feed c.len-ahead.ensures.value c.if-ahead-eq0.false c.if-ahead-eq-ROOM.false c.in-End.ensures.fills.0 c.cut-in-End.ensures.line c.cut-in-End.ensures.ahead refl

pub returns-in-End-clause-end : goal.returns-in-End-clause-end
returns-in-End-clause-end g c = λ e.
    end-last c.pieces.room.ahead c.fill.new.self.ahead c.cut-in-End.new.self.ahead (g.S.Source.left c.pieces.source) (g.S.Source.left c.fill.new.source) c.len-ahead.result c.len-ahead.ensures.value c.in-End.ensures.fills c.cut-in-End.ensures.ahead

pub returns-in-Failed-clause-next : goal.returns-in-Failed-clause-next
returns-in-Failed-clause-next g c =
    next-fault c.pieces.room.ahead (g.S.Source.left c.pieces.source) (g.S.Source.left c.fill.new.source) _ c.fill.new.self.ahead c.fill.new.self.line
    (same-stream _ _ c.args.room.now.ahead c.pieces.room.ahead c.pieces.invariant.so_far) c.in-Failed.ensures.fills

pub returns-in-Failed-clause-takes : goal.returns-in-Failed-clause-takes
returns-in-Failed-clause-takes g c =
    takes-fault _ _ _ c.args.room.now.ahead c.pieces.room.ahead c.fill.new.self.line c.fill.new.self.ahead _ c.pieces.invariant.so_far c.in-Failed.ensures.fills.1 c.in_default.ensures.few c.in_default.ensures.feed c.in-Failed.ensures.fills.0
    c.pieces.invariant.goes_on

pub returns-in-Failed-clause-end : goal.returns-in-Failed-clause-end
returns-in-Failed-clause-end g c = λ e. absurd (let f = c.pieces.invariant.goes_on in cc)
