use Rattle.tb_lines.specs.Outputs.{AtPrice, Charged, Lead, charged}
use Rattle.tb_lines.proofs.OtherWords.{session_as}
use Rattle.tb_lines.proofs.Paying.{paid}
use Rattle.tb_session.specs.PartySessions.{AreLegal, IsPartyStep, with_none_held}
use Rattle.tb_session.specs.declared.party.Party.{Party}
use Rattle.tb_session.proofs.LegalParties.{lines_legal}
use Rattle.tb_session.proofs.sessions.session.Goals as goal

pub returns-clause-session : goal.returns-clause-session
returns-clause-session g c =
    let setup = c.args.setup.now in
    let first : Charged Party = charged (with_none_held c.args.party.now) c.args.steps.now in
    let last : Charged Party = charged c.answer_lines.new.party c.answer_lines.new.steps in
    session_as (Lead (AtPrice (IsPartyStep setup))) (AreLegal setup) first last first.at last.at (λ lines replies h. lines_legal setup first.at lines replies last.at (paid (IsPartyStep setup) first lines replies last h).0)
    c.answer_lines.result _ _ _ _ c.answer_lines.ensures.session
