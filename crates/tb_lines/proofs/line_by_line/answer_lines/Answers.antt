use Rattle.std.proofs.Common.{◌≡◌, ◌∙◌, ap, arith, refl, subst, sym, ℕ, false, List}
use Rattle.tb_io.specs.declared.line_reader.NextLine.TheVariants as next_line
use Rattle.tb_lines.specs.Outputs.{AtPrice, charged}
use Rattle.std.proofs.lemmas.Bool.{or_from}
use Rattle.tb_lines.specs.Streams.{is_foreign, is_last, is_quit}
use Rattle.tb_lines.proofs.SoFar.{had_not, session-broken, session-cut, session-end, session-foreign, session-full, session-long, session-quit, so_far-more, so_far-none}
use Rattle.tb_lines.proofs.line_by_line.answer_lines.Goals as goal

-- a line that is neither foreign nor `quit`, as it was read
goes_on : {line read : List ℕ} → line ≡ read → is_foreign line ≡ false → is_quit line ≡ false → is_last read ≡ false
goes_on {line = line} e f q = subst (λ l. is_last l ≡ false) e (or_from (is_foreign line) (is_quit line) f q)

pub lines-init : goal.lines-init
lines-init g c = record {
  ready = c.begin.ensures.ready;
  reads = omega arith;
  writes = omega arith;
  live = c.reset.ensures.live;
  so_far = so_far-none (AtPrice (g.A.Answerer.Step c.args.setting.now tt)) (g.S.Source.left c.args.source.now) c.reset.new.self.ahead c.reset.new.self.ended (charged (g.A.Answerer.fresh (g.A.Answerer.state c.args.party.now)) c.args.steps.now) (charged (g.A.Answerer.state c.begin.new.self) c.args.steps.now)
      (g.K.Sink.taken c.args.sink.now) c.reset.ensures.ahead c.reset.ensures.ended (ap (λ s. charged s c.args.steps.now) c.begin.ensures.state);
}

pub returns-in-End-clause-session : goal.returns-in-End-clause-session
returns-in-End-clause-session g c =
    session-end (AtPrice (g.A.Answerer.Step c.args.setting.now tt)) c.lines.invariant.so_far _ c.next_line.new.self.ahead _ (g.S.Source.left c.next_line.new.source) c.lines-test.true c.in-End.ensures.next c.in-End.ensures.takes
    (λ t. ap g.S.Source.left (c.in-End.ensures.ended t).1)

pub returns-in-TooLong-clause-session : goal.returns-in-TooLong-clause-session
returns-in-TooLong-clause-session g c =
    let goes = had_not c.lines.lines.ended next_line.TooLong (λ t. (c.in-TooLong.ensures.ended t).0) (λ e. (cc)) in
    session-long (AtPrice (g.A.Answerer.Step c.args.setting.now tt)) c.lines.invariant.so_far c.refuse.result _ c.next_line.new.self.ahead _ _ _ c.lines-test.true goes (c.in-TooLong.ensures.next goes) (c.in-TooLong.ensures.takes goes) c.refuse.ensures.refused

pub returns-in-ReadFault-clause-session : goal.returns-in-ReadFault-clause-session
returns-in-ReadFault-clause-session g c =
    let goes = had_not c.lines.lines.ended next_line.ReadFault (λ t. (c.in-ReadFault.ensures.ended t).0) (λ e. (cc)) in
    session-broken (AtPrice (g.A.Answerer.Step c.args.setting.now tt)) c.lines.invariant.so_far _ c.next_line.new.self.ahead _ (g.S.Source.left c.next_line.new.source) c.lines-test.true goes (c.in-ReadFault.ensures.takes goes)

pub returns-then-is_foreign-clause-session : goal.returns-then-is_foreign-clause-session
returns-then-is_foreign-clause-session g c =
    let goes = had_not c.lines.lines.ended next_line.Line (λ t. (c.in-Line.ensures.ended t).0) (λ e. (cc)) in
    session-foreign (AtPrice (g.A.Answerer.Step c.args.setting.now tt)) c.lines.invariant.so_far _ c.next_line.new.self.ahead _ (g.S.Source.left c.next_line.new.source) c.lines-test.true goes (c.in-Line.ensures.next goes) (c.in-Line.ensures.takes goes)
    (c.in-Line.ensures.short refl) (ap is_foreign (sym c.line-line.ensures) ∙ sym c.is_foreign.ensures ∙ c.if-is_foreign.true)

pub returns-then-is_quit-clause-session : goal.returns-then-is_quit-clause-session
returns-then-is_quit-clause-session g c =
    let goes = had_not c.lines.lines.ended next_line.Line (λ t. (c.in-Line.ensures.ended t).0) (λ e. (cc)) in
    session-quit (AtPrice (g.A.Answerer.Step c.args.setting.now tt)) c.lines.invariant.so_far _ c.next_line.new.self.ahead _ (g.S.Source.left c.next_line.new.source) c.lines-test.true goes (c.in-Line.ensures.next goes) (c.in-Line.ensures.takes goes)
    (c.in-Line.ensures.short refl) (ap is_foreign (sym c.line-line.ensures) ∙ sym c.is_foreign.ensures ∙ c.if-is_foreign.false) (ap is_quit (sym c.line-line.ensures) ∙ sym c.is_quit.ensures ∙ c.if-is_quit.true)

pub returns-in-Failed-clause-session : goal.returns-in-Failed-clause-session
returns-in-Failed-clause-session g c =
    let h = c.in-Failed.ensures.replied in
    let goes = had_not c.lines.lines.ended next_line.Line (λ t. (c.in-Line.ensures.ended t).0) (λ e. (cc)) in
    session-cut (AtPrice (g.A.Answerer.Step c.args.setting.now tt)) c.lines.invariant.so_far (charged (g.A.Answerer.state c.answer.new.self) c.answer.new.steps) c.next_line.new.self.line c.next_line.new.self.ahead _ h.reply (g.S.Source.left c.next_line.new.source) _ c.lines-test.true
    goes (c.in-Line.ensures.next goes) (c.in-Line.ensures.takes goes) (c.in-Line.ensures.end goes) (c.in-Line.ensures.short refl) (goes_on c.line-line.ensures (sym c.is_foreign.ensures ∙ c.if-is_foreign.false) (sym c.is_quit.ensures ∙ c.if-is_quit.false))
    (subst (λ (l : List ℕ). g.A.Answerer.Step c.args.setting.now tt (g.A.Answerer.state c.lines.party) l h.reply (g.A.Answerer.state c.answer.new.self)) c.line-line.ensures h.step, h.cost) (h.written.part refl)

pub lines-preserved : goal.lines-preserved
lines-preserved g c =
    let h = c.in-All.ensures.replied in
    let goes = had_not c.lines.lines.ended next_line.Line (λ t. (c.in-Line.ensures.ended t).0) (λ e. (cc)) in
    record {
      ready = c.in-All.ensures.ready;
      reads = omega (arith, c.lines.invariant.reads, c.in-Line.ensures.count);
      writes = omega (arith, c.lines.invariant.writes, h.written.count);
      live = c.in-Line.ensures.live.1 refl;
      so_far = so_far-more (AtPrice (g.A.Answerer.Step c.args.setting.now tt)) c.lines.invariant.so_far (charged (g.A.Answerer.state c.answer.new.self) c.answer.new.steps) c.next_line.new.self.line c.next_line.new.self.ahead c.next_line.new.self.ended h.reply (g.S.Source.left c.next_line.new.source) _
          goes (c.in-Line.ensures.next goes) (c.in-Line.ensures.takes goes) (c.in-Line.ensures.end goes) (c.in-Line.ensures.short refl) (goes_on c.line-line.ensures (sym c.is_foreign.ensures ∙ c.if-is_foreign.false) (sym c.is_quit.ensures ∙ c.if-is_quit.false))
          (subst (λ (l : List ℕ). g.A.Answerer.Step c.args.setting.now tt (g.A.Answerer.state c.lines.party) l h.reply (g.A.Answerer.state c.answer.new.self)) c.line-line.ensures h.step, h.cost) (h.written.all refl);
    }

pub returns-clause-session : goal.returns-clause-session
returns-clause-session g c =
    session-full (AtPrice (g.A.Answerer.Step c.args.setting.now tt)) c.lines.invariant.so_far (omega arith)
